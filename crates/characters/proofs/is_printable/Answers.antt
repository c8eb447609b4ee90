-- `characters::is_printable`: all bytes begin a character.
use Rattle.std.proofs.Common.{rules}
use Rattle.std.proofs.lemmas.Iterator.{YieldsList-from_slice}
use Rattle.std.proofs.lemmas.Iterator.Search.{all_from_yields_List}
use borrow.Author.Tests.{tests}
use Rattle.contents.specs.Text.{starts, printable}
use Rattle.characters.specs.Laws.{printable_each}
use Rattle.characters.proofs.is_printable.Goals as goal

pub returns : goal.returns
returns c = rw (← printable_each c.args.w.now) (all_from_yields_List (starts printable) _ _ _ c.all.ensures.ran (YieldsList-from_slice c.args.w.now cc) (λ x b q k. search (rules, tests)))
