use Rattle.pb_planes.proofs.Put.{word_here, word_elsewhere}
use Rattle.pb_planes.proofs.words.put_word.Goals as goal

pub returns-clause-inside : goal.returns-clause-inside
returns-clause-inside c = word_here c.args.words.now c.args.index c.args.word c.requires

pub returns-clause-others : goal.returns-clause-others
returns-clause-others c = word_elsewhere c.args.words.now c.args.index c.args.word
