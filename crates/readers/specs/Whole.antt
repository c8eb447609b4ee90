-- A record that is the whole input, by positions. Assumes nothing.
use Rattle.std.specs.Prelude.{ℕ, List, length}
use Rattle.layouts.specs.Layout.{Members}
use Rattle.layouts.specs.Scan.{whole_scan}
use Rattle.layouts.specs.Marks.{record_marks}
use Rattle.terms.specs.Answer.{Answer}

unfoldable pub whole_walk : ℕ → Members → List ℕ → List ℕ → Answer ℕ × List ℕ
whole_walk most r s d = (whole_scan most r s, record_marks most r s 0 (length s) d)
