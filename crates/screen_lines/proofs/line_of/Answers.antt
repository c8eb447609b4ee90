-- `screen_lines::line_of`: the seal's fields stand behind the signed part and the seal.
use Rattle.std.proofs.Common.{arith}
use Rattle.screen_lines.proofs.Order.{behind}
use Rattle.screen_lines.proofs.line_of.Goals as goal

pub returns-in_default : goal.returns-in_default
returns-in_default c = (behind c.args.f c.if-f.true, omega arith)
