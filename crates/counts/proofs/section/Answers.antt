-- `counts::section`: a count, then as many bytes, if they are there.
use Rattle.counts.specs.Laws.{fits_count, section-cut, section_past, section-there, fits_section}
use Rattle.std.proofs.Common.{arith}
use borrow.Author.Rules.{rules}
use Rattle.counts.proofs.section.Goals as goal

pub returns-in_err-n : goal.returns-in_err-n
returns-in_err-n c = search (rules, section-cut)

pub overflow_add-start : goal.overflow_add-start
overflow_add-start c = search (rules, fits_count)

pub returns-then-w-n : goal.returns-then-w-n
returns-then-w-n c = search (rules, section_past)

pub overflow_add-result : goal.overflow_add-result
overflow_add-result c = fits_section _ _ _ _ c.count.ensures _ c.in_ok-n.was _ c.window-w.ensures c.if-w-n.false (omega arith)

pub returns : goal.returns
returns c = search (rules, section-there)
