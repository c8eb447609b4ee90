-- `screens::shown`: the row of the line, and what stands under its name.
use Rattle.screens.specs.Laws.{there_on, numbers_on}
use borrow.Author.Rules.{rules}
use Rattle.screens.proofs.shown.Goals as goal

pub returns : goal.returns
returns c = record { result_value = search rules; there_value = search (rules, there_on); result_value_2 = search (rules, numbers_on) }
