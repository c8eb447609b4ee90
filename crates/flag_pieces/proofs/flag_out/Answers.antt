-- `flag_pieces::flag_out`: FF or nothing in a record, 1 or 0 in a sheet.
use borrow.Author.Rules.{rules}
use Rattle.pieces.specs.Laws.{flag_none, flag_record, flag_one, flag_zero}
use Rattle.flag_pieces.proofs.flag_out.Goals as goal

pub returns-in-Record-true : goal.returns-in-Record-true
returns-in-Record-true c = search (rules, flag_record)

pub returns-in-Record-false : goal.returns-in-Record-false
returns-in-Record-false c = search (rules, flag_none)

pub returns-in-Sheet-true : goal.returns-in-Sheet-true
returns-in-Sheet-true c = search (rules, flag_one)

pub returns-in-Sheet-false : goal.returns-in-Sheet-false
returns-in-Sheet-false c = search (rules, flag_zero)
