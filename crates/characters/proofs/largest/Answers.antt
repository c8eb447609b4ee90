-- `characters::largest`: the larger of what was passed and of each byte.
use Rattle.std.specs.Prelude.{max}
use Rattle.std.proofs.Common.{rules}
use Rattle.std.proofs.lemmas.Iterator.{YieldsList-from_slice}
use Rattle.std.proofs.lemmas.Iterator.Consumers.{fold_from_yields_List}
use Rattle.characters.proofs.largest.Goals as goal

pub returns : goal.returns
returns c = fold_from_yields_List _ max 0 _ c.fold.ensures.ran (YieldsList-from_slice c.args.w.now cc) (λ a x r q k. search rules)
