-- Worked examples: each is proved by computing both sides.
use Rattle.std.specs.Prelude.{[], ◌∷◌, codes, refl}
use Rattle.pb_value.specs.Datum.{text}
use Rattle.pb_places.specs.Place.{bare_place}
use Rattle.pb_places.specs.FromPlay.{Debug}
use Rattle.pb_plan.specs.Hostvars.{IsFreePlace, IsFreeAt}

-- a task may show it, and have no variable with it
free_place : IsFreePlace (bare_place (codes "t") (Debug (text (codes "{{ hostvars }}"))))
free_place = record { role = record { defaults = refl; vars = refl; params = refl }; blocks = refl; own = refl }

-- a place that isn't there has no variables
beyond : IsFreeAt [] (bare_place (codes "t") (Debug (text (codes "{{ x }}"))) ∷ []) 1
beyond = (refl, tt)
