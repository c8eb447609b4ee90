-- `identifiers::whole_parts`: the loop keeps that the bytes that are left are whole parts just where all are, `begins` being whether one begins there.
use Rattle.identifiers.specs.Laws.{parts_end, parts-bad, parts_inside, parts_other}
use borrow.Author.Rules.{rules}
use Rattle.identifiers.proofs.whole_parts.Goals as goal
use Rattle.identifiers.proofs.whole_parts.Goals.{else-begins-via-then-begins+else-b, else-begins-via-else-begins}

pub returns-then-b : goal.returns-then-b
returns-then-b c = search (rules, parts-bad)

pub loop-b-preserved : goal.loop-b-preserved
loop-b-preserved c =
    elim c.else-begins.branch [
      | else-begins-via-then-begins+else-b w ↦ search (rules, parts_other)
      | else-begins-via-else-begins w ↦ search (rules, parts_inside)
    ]

pub returns : goal.returns
returns c = search (rules, parts_end)
