-- Worked examples: each is proved by computing both sides.
use Rattle.std.specs.Prelude.{◌≡◌, refl, pos, negsuc, [], ◌∷◌, replicate}
use Rattle.pb_batches.specs.declared.serial.Entry.TheVariants.{Number, Percent}
use Rattle.pb_batches.specs.Sizes.{batch_sizes}

-- the last entry repeats
one_then_parts : batch_sizes (Number (pos 1) ∷ Percent 30 ∷ []) 10 ≡ 1 ∷ 3 ∷ 3 ∷ 3 ∷ []
one_then_parts = refl

-- a percentage is of all hosts, not of those that are left, and the last batch is what is left
two_then_half : batch_sizes (Number (pos 2) ∷ Percent 50 ∷ []) 7 ≡ 2 ∷ 3 ∷ 2 ∷ []
two_then_half = refl

-- less than one host is one host
below_one : batch_sizes (Percent 1 ∷ []) 40 ≡ replicate 40 1
below_one = refl

no_part : batch_sizes (Percent 0 ∷ []) 3 ≡ 1 ∷ 1 ∷ 1 ∷ []
no_part = refl

-- 0 and less are all hosts, and nothing is said where there is no entry
zero_is_all : batch_sizes (Number (pos 0) ∷ []) 7 ≡ 7 ∷ []
zero_is_all = refl

negative_is_all : batch_sizes (Number (pos 2) ∷ Number (negsuc 0) ∷ Number (pos 1) ∷ []) 7 ≡ 2 ∷ 5 ∷ []
negative_is_all = refl

unsaid : batch_sizes [] 7 ≡ 7 ∷ []
unsaid = refl

-- more than there are are all of them
too_many : batch_sizes (Number (pos 8) ∷ []) 7 ≡ 7 ∷ []
too_many = refl

more_than_whole : batch_sizes (Percent 200 ∷ []) 7 ≡ 7 ∷ []
more_than_whole = refl

-- a list that is longer than it need be
longer : batch_sizes (Number (pos 3) ∷ Number (pos 3) ∷ Number (pos 1) ∷ Number (pos 1) ∷ []) 5 ≡ 3 ∷ 2 ∷ []
longer = refl

-- without hosts there is no batch
no_hosts : batch_sizes (Number (pos 2) ∷ []) 0 ≡ []
no_hosts = refl
