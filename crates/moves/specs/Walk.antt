-- What the functions over the table answer, and the destination after each. Assumes nothing.
-- Nobody has to believe this page: it names what `Move` says of an item's content and of the members of a row.
use Rattle.std.specs.Prelude.{ℕ, ◌-◌, Bool, false, not, List, [], length, ltb}
use Rattle.terms.specs.Answer.{pick}
use Rattle.layouts.specs.Layout.{Item, leaf, node, list, wrap, maybe}
use Rattle.primitives.specs.Primitive.{leaf_of, known_of}
use Rattle.structures.specs.Structure.{layout_of}
use Rattle.rows.specs.declared.Member.{Member}
use Rattle.rows.specs.declared.Member.TheVariants as member
use Rattle.rows.specs.Row.{choice_of}
use Rattle.sides.specs.declared.Side.{Side}
use Rattle.sides.specs.declared.Side.TheVariants as side
use Rattle.sides.specs.Move.{Moved, Body, single, holding, move_many, move_leaf, move_known, move_flag, move, moves, move_part}
use Rattle.stores.specs.Store.{advance, put}
use Rattle.pieces.specs.Piece.{wrote}

-- whether nothing stands before what an item holds
abbrev pub bare : Side → Bool → Bool
bare side.Record listed = false
bare side.Sheet listed = not listed

module _ (from to : Side) where
  -- what stands in an item, from `a` to `z`, with its count
  unfoldable pub inside : Item → List ℕ → ℕ → ℕ → ℕ → Body
  inside (leaf l) s c a z = (a, 0, [])
  inside (node t r) s c a z = single (moves from to r s a z)
  inside (list t o n f i) s c a z = move_many from (λ q. move from to i s q z) n 0 c a z
  inside (wrap t i) s c a z = single (move from to i s a z)

  -- an item that holds others, by what stands in it
  unfoldable pub held_move : Item → ℕ → Bool → List ℕ → ℕ → ℕ → Moved
  held_move i t listed s p e = holding from to t listed (λ c a z. inside i s c a z) s p e

  -- a member of a row
  unfoldable pub member_move : Member → List ℕ → ℕ → ℕ → Moved
  member_move member.Blank s p e = (p, [])
  member_move (member.Known w) s p e = move_known from to (known_of w) s p e
  member_move (member.Leaf f l) s p e = move_leaf from to (leaf_of l) s p e
  member_move (member.Part f x) s p e = move from to (layout_of x) s p e
  member_move (member.Maybe f x) s p e = move_part from to (maybe f (layout_of x)) s p e
  member_move (member.Flag f) s p e = move_flag from to s p e
  member_move (member.Choice f l c g x y) s p e = move_part from to (choice_of f l c g x y) s p e

  -- the items of a list, at most `m`, after `k` of `n`
  unfoldable pub list_move : Item → ℕ → ℕ → ℕ → List ℕ → ℕ → ℕ → Body
  list_move i m k n s p e = move_many from (λ q. move from to i s q e) (m - k) k n p e

-- the number of a list's items beside what `wrote` has
unfoldable pub wrote_body : Body → List ℕ → ℕ → ℕ × ℕ × ℕ × List ℕ
wrote_body b d o = (b.0, b.1, advance o (length b.2), put d o b.2)

-- what is moved, stored from the start of a destination where it has at most `most` bytes and room; else counted alone
unfoldable pub wrote_within : ℕ → Moved → List ℕ → ℕ × ℕ × List ℕ
wrote_within most m d =
    let n : ℕ = advance 0 (length m.1) in
    pick (ltb most n) (m.0, n, d) (pick (ltb (length d) n) (m.0, n, d) (wrote m d 0))
