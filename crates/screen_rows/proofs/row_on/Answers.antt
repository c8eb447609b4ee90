-- `screen_rows::row_on`: each line has its row; past them is none.
use Rattle.screen_rows.specs.Laws.{on_line, past_last}
use Rattle.screen_rows.proofs.row_on.Goals as goal

pub returns-then-line-lt-LINES : goal.returns-then-line-lt-LINES
returns-then-line-lt-LINES c = on_line c.args.line _ c.if-line-lt-LINES.true

pub returns-else-line-lt-LINES : goal.returns-else-line-lt-LINES
returns-else-line-lt-LINES c = past_last c.args.line c.if-line-lt-LINES.false
