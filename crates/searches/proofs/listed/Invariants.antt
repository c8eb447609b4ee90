-- `searches::listed`: the loop keeps that what is found from `p` on among the entries left is the whole answer.
use Rattle.std.proofs.Common.{◌≡◌, ◌-◌}
use Rattle.terms.specs.Numbers.{most_items}
use Rattle.searches.specs.Match.{listed_at}
use Rattle.searches.proofs.listed.Given as goal

abbrev pub invariant-loop : goal.invariant-loop
invariant-loop l = listed_at l.given l.kind_1 l.s l.end (most_items - l.counter) l.p ≡ listed_at l.given l.kind_1 l.s l.end most_items l.at
