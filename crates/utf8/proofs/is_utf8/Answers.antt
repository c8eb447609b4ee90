-- `utf8::is_utf8`: the loop keeps that what is left is text just where all is.
use mathlib.Core.Path.{refl}
use native.Mathlib.Omega.{arith}
use Rattle.contents.specs.Text.{utf8}
use Rattle.characters.specs.Laws.{text_end}
use Rattle.utf8.specs.Laws.{ascii, size_fits, size_on, size-bad}
use borrow.Author.Rules.{rules}
use Rattle.utf8.proofs.is_utf8.Goals as goal

pub returns-then-is_ia5 : goal.returns-then-is_ia5
returns-then-is_ia5 c = search (rules, ascii)

pub loop-i-init : goal.loop-i-init
loop-i-init c = (search rules, refl)

pub returns-then-n-eq0 : goal.returns-then-n-eq0
returns-then-n-eq0 c = search (rules, size-bad)

pub overflow_add-i : goal.overflow_add-i
overflow_add-i c = let h = size_fits utf8 c.args.w.now c.loop-i.i _ c.size_at-n.ensures (search rules) in omega arith

pub loop-i-smaller : goal.loop-i-smaller
loop-i-smaller c = let h = size_fits utf8 c.args.w.now c.loop-i.i _ c.size_at-n.ensures (search rules) in omega arith

pub loop-i-preserved : goal.loop-i-preserved
loop-i-preserved c = (search (rules, size_fits), search (rules, size_on))

pub returns : goal.returns
returns c = search (rules, text_end)
