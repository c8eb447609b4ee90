-- `utf8::size_at`: each arm names the row of the first byte; between the arms there is no row.
use Rattle.contents.specs.Text.{utf8}
use Rattle.utf8.specs.Laws.{size-row, size_one, size_none}
use borrow.Author.Rules.{rules}
use Rattle.utf8.proofs.size_at.Goals as goal

pub returns-in-224 : goal.returns-in-224
returns-in-224 c = size-row utf8 _ _ _ c.requires 2 _ c.followed.ensures (search rules) (search rules) (search rules)

pub returns-in-237 : goal.returns-in-237
returns-in-237 c = size-row utf8 _ _ _ c.requires 4 _ c.followed-in-237.ensures (search rules) (search rules) (search rules)

pub returns-in-240 : goal.returns-in-240
returns-in-240 c = size-row utf8 _ _ _ c.requires 6 _ c.followed-in-240.ensures (search rules) (search rules) (search rules)

pub returns-in-244 : goal.returns-in-244
returns-in-244 c = size-row utf8 _ _ _ c.requires 8 _ c.followed-in-244.ensures (search rules) (search rules) (search rules)

pub returns-in-0-to-127 : goal.returns-in-0-to-127
returns-in-0-to-127 c = size-row utf8 _ _ _ c.requires 0 _ (size_one _) (search rules) (search rules) (search rules)

pub returns-in-194-to-223 : goal.returns-in-194-to-223
returns-in-194-to-223 c = size-row utf8 _ _ _ c.requires 1 _ c.followed-in-194-to-223.ensures (search rules) (search rules) (search rules)

pub returns-in-225-to-236 : goal.returns-in-225-to-236
returns-in-225-to-236 c = size-row utf8 _ _ _ c.requires 3 _ c.followed-in-225-to-236.ensures (search rules) (search rules) (search rules)

pub returns-in-238-to-239 : goal.returns-in-238-to-239
returns-in-238-to-239 c = size-row utf8 _ _ _ c.requires 5 _ c.followed-in-238-to-239.ensures (search rules) (search rules) (search rules)

pub returns-in-241-to-243 : goal.returns-in-241-to-243
returns-in-241-to-243 c = size-row utf8 _ _ _ c.requires 7 _ c.followed-in-241-to-243.ensures (search rules) (search rules) (search rules)

pub returns-in_default : goal.returns-in_default
returns-in_default c = size_none utf8 _ _ _ c.requires (search rules)

pub returns-in_default-2 : goal.returns-in_default-2
returns-in_default-2 c = size_none utf8 _ _ _ c.requires (search rules)
