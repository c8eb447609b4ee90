-- What the functions over the table answer, a law for each step. Assumes nothing.
pub mod Table
pub mod Notes
use Rattle.std.proofs.Math.Path.{◌≡◌, refl, sym, ap}
use Rattle.std.proofs.Common.{◌∙◌, leb→le}
use Prim.Native.Nat.{ℕ, suc, ◌+◌, ◌-◌, ◌*◌, ◌≤◌, ◌<◌}
use native.Mathlib.Omega.{arith}
use Rattle.std.proofs.Math.Numerals.{add-one}
use Rattle.std.proofs.Math.Nat.{sub-zero}
use Rattle.std.specs.Prelude.{Bool, length, get_or, drop, leb, ltb}
use Rattle.std.proofs.Math.Bool.{true, false}
use mathlib.Core.List.{List, [], ◌∷◌, ◌++◌}
use Rattle.std.proofs.Math.Dec.{nleb→lt}
use borrow.Author.Tests.{le-ltb, lt-ltb}
use Rattle.terms.specs.declared.Field.{Field}
use Rattle.terms.specs.Answer.{pick}
use Rattle.terms.specs.Laws.Answer.{never, test}
use Rattle.heads.specs.Head.{forms, octets, spell}
use Rattle.heads.proofs.Laws.Head.{unspelled}
use Rattle.tags.specs.declared.Tag.{Tag}
use Rattle.tags.specs.Tag.{tag_byte}
use Rattle.layouts.specs.Layout.{Item, node, list, wrap, Members, tag_of}
use Rattle.primitives.specs.declared.Content.{Content}
use Rattle.primitives.specs.declared.Primitive.{Primitive}
use Rattle.primitives.specs.declared.Word.{Word}
use Rattle.primitives.specs.Primitive.{leaf_of, known_of, says}
use Rattle.structures.specs.declared.Row.{Row}
use Rattle.structures.specs.declared.Structure.{Structure}
use Rattle.structures.specs.declared.Build.{Build}
use Rattle.structures.specs.declared.Build.TheVariants as build
use Rattle.structures.specs.Structure.{row_of, layout_of, item_of}
use Rattle.rows.specs.declared.Member.{Member}
use Rattle.rows.specs.declared.Member.TheVariants as member
use Rattle.rows.specs.Row.{members_of}
use Rattle.rows.specs.Size as table
use Rattle.rows.specs.Size.{size, sizes, size_of, from as rest, one_more_lem, none_left, below}
use Rattle.sides.specs.declared.Side.{Side}
use Rattle.sides.specs.declared.Side.TheVariants as side
use Rattle.sides.specs.Move.{Moved, Body, join, join_body, single, open_at, after, more, present_at, value_at, front, mark, closing, move_many, move_leaf, move_known, move_flag, move, moves}
use Rattle.stores.specs.Store.{cap, advance, put, puts}
use Rattle.stores.specs.Laws.Store.{advance_capped, advance-small, advance-full, put_past, puts_to, puts_is, puts_then}
use Rattle.pieces.specs.Piece.{wrote}
use Rattle.moves.specs.Walk.{bare, inside, held_move, member_move, list_move, wrote_body, wrote_within}
use Rattle.moves.specs.Notes.{note_by, note_of}

-- ---- a number that falls from each function to those that it calls

abbrev pub item_size : Structure → ℕ
item_size x = 6 * size (layout_of x)

abbrev pub held_size : Structure → ℕ
held_size x = 6 * (size (layout_of x) - 1) + 5

abbrev pub measured_size : Structure → ℕ
measured_size x = 6 * (size (layout_of x) - 1) + 4

abbrev pub stored_size : Structure → ℕ
stored_size x = 6 * (size (layout_of x) - 1) + 3

-- of what stands in an item
abbrev pub content_size : Structure → ℕ
content_size x = 6 * (size (layout_of x) - 1) + 2

abbrev pub row_size : Row → ℕ
row_size x = 6 * sizes (row_of x) + 1

abbrev pub list_size : Structure → ℕ
list_size x = 6 * size (layout_of x) + 1

abbrev pub member_size : Member → ℕ
member_size m = 6 * size_of m

-- what an item holds is smaller
module _ (x : Structure) (k : Build) (t : Tag) (l : layout_of x ≡ item_of k) where
  module _ (m : Row) (i : k ≡ build.Node t m) where
    pub node_holds : held_size x < item_size x
    node_holds = let a = table.node_less x k t l m i in omega arith

    pub node_less : row_size m < content_size x
    node_less = let a = table.node_less x k t l m i in omega arith

  module _ (o : Bool) (n : ℕ) (f : Field) (u : Structure) (i : k ≡ build.List t o n f u) where
    pub list_holds : held_size x < item_size x
    list_holds = let a = table.list_less x k t l o n f u i in omega arith

    pub list_less : list_size u < content_size x
    list_less = let a = table.list_less x k t l o n f u i in omega arith

  module _ (u : Structure) (i : k ≡ build.Wrap t u) where
    pub wrap_holds : held_size x < item_size x
    wrap_holds = let a = table.wrap_less x k t l u i in omega arith

    pub wrap_less : item_size u < content_size x
    wrap_less = let a = table.wrap_less x k t l u i in omega arith

-- what a member holds is smaller
module _ (m : Member) where
  pub part_less : (f : Field) (x : Structure) → m ≡ member.Part f x → item_size x < member_size m
  part_less f x i = let a = table.part_less m f x i in omega arith

  pub maybe_less : (f : Field) (x : Structure) → m ≡ member.Maybe f x → item_size x < member_size m
  maybe_less f x i = let a = table.maybe_less m f x i in omega arith

  pub first_less : (f : Field) (l : Primitive) (c : Content) (g : Field) (x y : Structure) → m ≡ member.Choice f l c g x y → item_size x < member_size m
  first_less f l c g x y i = let a = table.first_less m f l c g x y i in omega arith

  pub second_less : (f : Field) (l : Primitive) (c : Content) (g : Field) (x y : Structure) → m ≡ member.Choice f l c g x y → item_size y < member_size m
  second_less f l c g x y i = let a = table.second_less m f l c g x y i in omega arith

-- what is measured or stored is the same item, with less to do
pub holds-stored : (x : Structure) → stored_size x < held_size x
holds-stored x = omega arith

pub holds_measured : (x : Structure) → measured_size x < held_size x
holds_measured x = omega arith

pub holds_content : (x : Structure) → content_size x < held_size x
holds_content x = omega arith

pub measured_stored : (x : Structure) → stored_size x < measured_size x
measured_stored x = omega arith

pub measured_content : (x : Structure) → content_size x < measured_size x
measured_content x = omega arith

pub stored_content : (x : Structure) → content_size x < stored_size x
stored_content x = omega arith

pub member_less : (ms : List Member) (d : Member) (k w : ℕ) → length ms ≡ w → k < w → (x : Row) (t : ℕ) → row_size x ≡ t → row_of x ≡ members_of ms → sizes (rest k ms) ≤ sizes (members_of ms) → member_size (get_or ms k d) < t
member_less ms d k w n r x t h g f = let a = table.member_smaller ms d k w n r x (suc (sizes (row_of x))) refl g f in omega arith

-- ---- what is stored one after another

abbrev Out : Type 0
Out = ℕ × ℕ × List ℕ

abbrev OutBody : Type 0
OutBody = ℕ × ℕ × ℕ × List ℕ

module _ (bs : List ℕ) (d : List ℕ) (o o₁ : ℕ) (d₁ : List ℕ) (h : (o₁, d₁) ≡ puts bs d o) where
  wrote-more : (m : Moved) → wrote m d₁ o₁ ≡ wrote (m.0, bs ++ m.1) d o
  unfolding wrote puts
  wrote-more m = ap (λ (w : ℕ × List ℕ). (m.0, w.0, w.1)) (puts_then bs d o o₁ d₁ h m.1)

  wrote_body-more : (b : Body) → wrote_body b d₁ o₁ ≡ wrote_body (b.0, b.1, bs ++ b.2) d o
  unfolding wrote_body puts
  wrote_body-more b = ap (λ (w : ℕ × List ℕ). (b.0, b.1, w.0, w.1)) (puts_then bs d o o₁ d₁ h b.2)

module _ (m : Moved) (d : List ℕ) (o q o₁ : ℕ) (d₁ : List ℕ) (h : (q, o₁, d₁) ≡ wrote m d o) where
  wrote-next : q ≡ m.0
  unfolding wrote
  wrote-next = ap (λ (w : Out). w.0) h

  wrote-puts : (o₁, d₁) ≡ puts m.1 d o
  unfolding wrote puts
  wrote-puts = ap (λ (w : Out). (w.1, w.2)) h

  wrote-join : (k : ℕ → Moved) → wrote (join m k) d o ≡ wrote (k q) d₁ o₁
  wrote-join k = sym (wrote-more m.1 d o o₁ d₁ wrote-puts (k q) ∙ ap (λ (r : ℕ). wrote ((k r).0, m.1 ++ (k r).1) d o) wrote-next)

  wrote_body-join : (k : ℕ → Body) → wrote_body (join_body m k) d o ≡ wrote_body (k q) d₁ o₁
  wrote_body-join k = sym (wrote_body-more m.1 d o o₁ d₁ wrote-puts (k q) ∙ ap (λ (r : ℕ). wrote_body ((k r).0, (k r).1, m.1 ++ (k r).2) d o) wrote-next)

-- ---- an item

module _ (from to : Side) (s : List ℕ) (p e : ℕ) where
  held_node : (j : Item) (t : ℕ) (r : Members) → j ≡ node t r → held_move from to j t false s p e ≡ move from to j s p e
  unfolding held_move move inside
  held_node j t r h = rw h

  held_list : (j : Item) (t : ℕ) (o : Bool) (n : ℕ) (f : Field) (i : Item) → j ≡ list t o n f i → held_move from to j t true s p e ≡ move from to j s p e
  unfolding held_move move inside
  held_list j t o n f i h = rw h

  held_wrap : (j : Item) (t : ℕ) (i : Item) → j ≡ wrap t i → held_move from to j t false s p e ≡ move from to j s p e
  unfolding held_move move inside
  held_wrap j t i h = rw h

  module _ (d : List ℕ) (o : ℕ) (x : Structure) (k : Build) (l : layout_of x ≡ item_of k) (w : Out) where
    abbrev MovesItem : Type 0
    MovesItem = w ≡ wrote (move from to (layout_of x) s p e) d o

    pub item_leaf : (c : Primitive) → k ≡ build.Leaf c → w ≡ wrote (move_leaf from to (leaf_of c) s p e) d o → MovesItem
    unfolding move
    item_leaf c i g = rw (l, i) g

    pub item_node : (t : Tag) (m : Row) → k ≡ build.Node t m → w ≡ wrote (held_move from to (layout_of x) (tag_byte t) false s p e) d o → MovesItem
    item_node t m i g = g ∙ ap (λ (y : Moved). wrote y d o) (held_node (layout_of x) (tag_byte t) (row_of m) (l ∙ ap item_of i))

    pub item_list : (t : Tag) (v : Bool) (n : ℕ) (f : Field) (u : Structure) → k ≡ build.List t v n f u → w ≡ wrote (held_move from to (layout_of x) (tag_byte t) true s p e) d o → MovesItem
    item_list t v n f u i g = g ∙ ap (λ (y : Moved). wrote y d o) (held_list (layout_of x) (tag_byte t) v n f (layout_of u) (l ∙ ap item_of i))

    pub item_wrap : (t : Tag) (u : Structure) → k ≡ build.Wrap t u → w ≡ wrote (held_move from to (layout_of x) (tag_byte t) false s p e) d o → MovesItem
    item_wrap t u i g = g ∙ ap (λ (y : Moved). wrote y d o) (held_wrap (layout_of x) (tag_byte t) (layout_of u) (l ∙ ap item_of i))

-- ---- what stands in an item

abbrev bodied : Out → OutBody
bodied w = (w.0, 0, w.1, w.2)

single-wrote : (m : Moved) (d : List ℕ) (o : ℕ) → bodied (wrote m d o) ≡ wrote_body (single m) d o
unfolding wrote wrote_body
single-wrote m d o = refl

module _ (from to : Side) (s : List ℕ) (n p e : ℕ) (d : List ℕ) (o : ℕ) (x : Structure) (k : Build) (l : layout_of x ≡ item_of k) where
  abbrev Holds : OutBody → Type 0
  Holds w = w ≡ wrote_body (inside from to (layout_of x) s n p e) d o

  inside_is : (i : Build) → k ≡ i → wrote_body (inside from to (item_of i) s n p e) d o ≡ wrote_body (inside from to (layout_of x) s n p e) d o
  inside_is i h = ap (λ (j : Item). wrote_body (inside from to j s n p e) d o) (sym (l ∙ ap item_of h))

  pub content_leaf : (c : Primitive) → k ≡ build.Leaf c → Holds (p, 0, o, d)
  unfolding inside wrote_body advance put
  content_leaf c i = rw (l, i)

  pub content_node : (t : Tag) (m : Row) (q o₁ : ℕ) (d₁ : List ℕ) → k ≡ build.Node t m → (q, o₁, d₁) ≡ wrote (moves from to (row_of m) s p e) d o → Holds (q, 0, o₁, d₁)
  unfolding inside
  content_node t m q o₁ d₁ i g = ap bodied g ∙ single-wrote (moves from to (row_of m) s p e) d o ∙ inside_is (build.Node t m) i

  pub content_list : (t : Tag) (v : Bool) (m : ℕ) (f : Field) (u : Structure) (w : OutBody) → k ≡ build.List t v m f u → w ≡ wrote_body (list_move from to (layout_of u) m 0 n s p e) d o → Holds w
  unfolding inside list_move
  content_list t v m f u w i g =
      g ∙ ap (λ (j : ℕ). wrote_body (move_many from (λ q. move from to (layout_of u) s q e) j 0 n p e) d o) (sub-zero m) ∙ inside_is (build.List t v m f u) i

  pub content_wrap : (t : Tag) (u : Structure) (q o₁ : ℕ) (d₁ : List ℕ) → k ≡ build.Wrap t u → (q, o₁, d₁) ≡ wrote (move from to (layout_of u) s p e) d o → Holds (q, 0, o₁, d₁)
  unfolding inside
  content_wrap t u q o₁ d₁ i g = ap bodied g ∙ single-wrote (move from to (layout_of u) s p e) d o ∙ inside_is (build.Wrap t u) i

-- ---- an item that holds others

-- a length that cannot be written is not written, so that a measured size serves also where it stopped at the cap
octets_large : (n : ℕ) → unspelled ≤ n → octets forms n ≡ []
unfolding octets spell pick
octets_large n h =
    let a : 128 ≤ n = omega arith in
    let b : 256 ≤ n = omega arith in
    rw (le-ltb n 128 a, le-ltb n 256 b, le-ltb n unspelled h)

octets_capped : (n : ℕ) → octets forms (advance 0 n) ≡ octets forms n
octets_capped n =
    test (leb n cap)
    (λ g. let q : n ≤ cap = leb→le n cap g in ap (octets forms) (advance-small 0 n (omega arith) ∙ omega arith))
    (λ g. let q : cap < n = nleb→lt n cap g in
    let f : advance 0 n ≡ cap = advance-full 0 n (omega arith) (omega arith) in
    rw f (octets_large cap (omega arith) ∙ sym (octets_large n (omega arith))))

front_capped : (to : Side) (t : ℕ) (listed : Bool) (k n : ℕ) → front to t listed k (advance 0 n) ≡ front to t listed k n
unfolding front
front_capped side.Record t listed k n = rw (octets_capped n)
front_capped side.Sheet t true k n = refl
front_capped side.Sheet t false k n = refl

-- what is noted says as much as the size and the number of items
note_front : (to : Side) (t : ℕ) (listed : Bool) (b : Body) → front to t listed (note_of to b) (note_of to b) ≡ front to t listed b.1 (length b.2)
unfolding front
note_front side.Record t listed b = front_capped side.Record t listed b.1 (length b.2)
note_front side.Sheet t true b = front_capped side.Sheet t true b.1 (length b.2)
note_front side.Sheet t false b = front_capped side.Sheet t false b.1 (length b.2)

pub held_closed : (from to : Side) (s : List ℕ) (p e : ℕ) (d : List ℕ) (o : ℕ) (x : Structure) (t : Tag) (listed : Bool) (c a z : ℕ) (w : Out) → (c, a, z) ≡ open_at from (tag_byte t) listed s p e
    → w ≡ wrote (closing from to (tag_byte t) listed z (inside from to (layout_of x) s c a z)) d o → w ≡ wrote (held_move from to (layout_of x) (tag_byte t) listed s p e) d o
unfolding held_move
held_closed from to s p e d o x t listed c a z w h g = rw (← h) g

module _ (from to : Side) (s : List ℕ) (c a z : ℕ) (d : List ℕ) (o : ℕ) (x : Structure) (t : Tag) (listed : Bool) where
  body : Body
  body = inside from to (layout_of x) s c a z

  -- what stands before it, by its note
  module _ (v : ℕ) (h : v ≡ note_of to (inside from to (layout_of x) s c a z)) (o₁ : ℕ) (d₁ : List ℕ) (b : (o₁, d₁) ≡ puts (front to (tag_byte t) listed v v) d o) where
    front-put : (o₁, d₁) ≡ puts (front to (tag_byte t) listed body.1 (length body.2)) d o
    unfolding body
    front-put = b ∙ ap (λ (y : List ℕ). puts y d o) (ap (λ (n : ℕ). front to (tag_byte t) listed n n) h ∙ note_front to (tag_byte t) listed body)

    -- then what stands in it
    pub held-stored : (q j r : ℕ) (d₂ : List ℕ) (y : ℕ) → (q, j, r, d₂) ≡ wrote_body (inside from to (layout_of x) s c a z) d₁ o₁ → y ≡ after from z q
        → (y, r, d₂) ≡ wrote (closing from to (tag_byte t) listed z (inside from to (layout_of x) s c a z)) d o
    unfolding wrote wrote_body body
    held-stored q j r d₂ y f u =
        let k : (after from z q, r, d₂) ≡ wrote (after from z body.0, body.2) d₁ o₁ = ap (λ (w : OutBody). (after from z w.0, w.2, w.3)) f in
        let k' : ◌≡◌ {A = Out} (y, r, d₂) (after from z q, r, d₂) = rw u refl in
        k' ∙ k ∙ wrote-more _ d o o₁ d₁ front-put (after from z body.0, body.2)

  -- measured, where there is no room
  pub held_measured : (q j r : ℕ) (none none' : List ℕ) (v o₁ : ℕ) (d₁ : List ℕ) (y n : ℕ) → length d ≤ o → (q, j, r, none') ≡ wrote_body (inside from to (layout_of x) s c a z) none 0 → v ≡ note_by to j r
      → (o₁, d₁) ≡ puts (front to (tag_byte t) listed v v) d o → y ≡ after from z q → n ≡ advance o₁ r → (y, n, d₁) ≡ wrote (closing from to (tag_byte t) listed z (inside from to (layout_of x) s c a z)) d o
  unfolding wrote wrote_body body puts
  held_measured q j r none none' v o₁ d₁ y n k g h b u m =
      let i : v ≡ note_of to body = h ∙ ap (λ (w : OutBody). note_by to w.1 w.2) g in
      let f : List ℕ = front to (tag_byte t) listed body.1 (length body.2) in
      let y' : y ≡ after from z body.0 = u ∙ ap (λ (w : OutBody). after from z w.0) g in
      let n' : n ≡ advance o₁ (length body.2) = m ∙ ap (λ (w : OutBody). advance o₁ w.2) g ∙ advance_capped o₁ (length body.2) in
      let n'' : advance o₁ (length body.2) ≡ advance o (length (f ++ body.2)) = ap (λ (w : ℕ × List ℕ). w.0) (puts_then f d o o₁ d₁ (front-put v i o₁ d₁ b) body.2) in
      let d' : d₁ ≡ d = puts_is f d o o₁ d₁ (front-put v i o₁ d₁ b) ∙ put_past d o f k in
      let d'' : put d o (f ++ body.2) ≡ d = put_past d o (f ++ body.2) k in
      rw (y', n', n'', d', d'') refl

bare-front : (to : Side) (t : ℕ) (listed : Bool) (k n : ℕ) → bare to listed ≡ true → front to t listed k n ≡ []
unfolding front
bare-front side.Record t listed k n h = never (cc)
bare-front side.Sheet t true k n h = never (cc)
bare-front side.Sheet t false k n h = refl

-- nothing stands before it
pub held-bare : (from to : Side) (s : List ℕ) (p e : ℕ) (d : List ℕ) (o : ℕ) (x : Structure) (t : Tag) (listed : Bool) (c a z : ℕ) (b : Bool) (q j r : ℕ) (d₁ : List ℕ) (y : ℕ)
    → (c, a, z) ≡ open_at from (tag_byte t) listed s p e → b ≡ bare to listed → b ≡ true → (q, j, r, d₁) ≡ wrote_body (inside from to (layout_of x) s c a z) d o → y ≡ after from z q
    → (y, r, d₁) ≡ wrote (held_move from to (layout_of x) (tag_byte t) listed s p e) d o
unfolding held_move wrote wrote_body
held-bare from to s p e d o x t listed c a z b q j r d₁ y h i k g u =
    let n = inside from to (layout_of x) s c a z in
    let f = bare-front to (tag_byte t) listed n.1 (length n.2) (sym i ∙ k) in
    let v : (after from z q, r, d₁) ≡ wrote (after from z n.0, n.2) d o = ap (λ (w : OutBody). (after from z w.0, w.2, w.3)) g in
    rw (← h, f, u) v

-- ---- a member

module _ (from to : Side) (m : Member) (s : List ℕ) (p e : ℕ) (d : List ℕ) (o : ℕ) where
  abbrev MovesMember : Out → Type 0
  MovesMember w = w ≡ wrote (member_move from to m s p e) d o

  as_member : (y : Member) → m ≡ y → wrote (member_move from to y s p e) d o ≡ wrote (member_move from to m s p e) d o
  as_member y i = ap (λ (k : Member). wrote (member_move from to k s p e) d o) (sym i)

  pub member_blank : m ≡ member.Blank → MovesMember (p, o, d)
  unfolding member_move wrote advance put
  member_blank i = rw i

  module _ (w : Out) where
    pub member_known : (c : Word) → m ≡ member.Known c → w ≡ wrote (move_known from to (known_of c) s p e) d o → MovesMember w
    unfolding member_move
    member_known c i g = rw i g

    pub member_leaf : (f : Field) (l : Primitive) → m ≡ member.Leaf f l → w ≡ wrote (move_leaf from to (leaf_of l) s p e) d o → MovesMember w
    unfolding member_move
    member_leaf f l i g = rw i g

    pub member_part : (f : Field) (x : Structure) → m ≡ member.Part f x → w ≡ wrote (move from to (layout_of x) s p e) d o → MovesMember w
    unfolding member_move
    member_part f x i g = g ∙ as_member (member.Part f x) i

    pub member_flag : (f : Field) → m ≡ member.Flag f → w ≡ wrote (move_flag from to s p e) d o → MovesMember w
    unfolding member_move
    member_flag f i g = rw i g

  module _ (f : Field) (x : Structure) (t : Tag) (b : Bool) (a : ℕ) (i : m ≡ member.Maybe f x) (j : tag_byte t ≡ tag_of (layout_of x)) (h : (b, a) ≡ present_at from (tag_byte t) s p e)
      (o₁ : ℕ) (d₁ : List ℕ) (k : (o₁, d₁) ≡ puts (mark to b) d o) where
    present_is : present_at from (tag_of (layout_of x)) s p e ≡ (b, a)
    present_is = ap (λ (y : ℕ). present_at from y s p e) (sym j) ∙ sym h

    pub maybe_there : (w : Out) → b ≡ true → w ≡ wrote (move from to (layout_of x) s a e) d₁ o₁ → MovesMember w
    unfolding member_move move pick
    maybe_there w u g =
        let z : wrote (member_move from to (member.Maybe f x) s p e) d o ≡ wrote ((move from to (layout_of x) s a e).0, mark to b ++ (move from to (layout_of x) s a e).1) d o = rw (present_is, u) refl in
        g ∙ wrote-more (mark to b) d o o₁ d₁ k (move from to (layout_of x) s a e) ∙ sym z ∙ as_member (member.Maybe f x) i

    pub maybe_gone : b ≡ false → MovesMember (a, o₁, d₁)
    unfolding member_move move pick wrote
    maybe_gone u =
        let z : wrote (member_move from to (member.Maybe f x) s p e) d o ≡ wrote (a, mark to b) d o = rw (present_is, u) refl in
        let y : (a, o₁, d₁) ≡ wrote (a, mark to b) d o = rw (puts_to (mark to b) d o o₁ d₁ k, puts_is (mark to b) d o o₁ d₁ k) refl in
        y ∙ sym z ∙ as_member (member.Maybe f x) i

  module _ (f : Field) (l : Primitive) (c : Content) (g : Field) (x u : Structure) (i : m ≡ member.Choice f l c g x u) (q o₁ : ℕ) (d₁ : List ℕ) (h : (q, o₁, d₁) ≡ wrote (move_leaf from to (leaf_of l) s p e) d o)
      (b : Bool) (k : b ≡ says c (value_at from (leaf_of l) s p e)) where
    choice_is : wrote (member_move from to m s p e) d o ≡ wrote (pick b (move from to (layout_of x) s q e) (move from to (layout_of u) s q e)) d₁ o₁
    unfolding member_move move
    choice_is =
        sym (as_member (member.Choice f l c g x u) i)
        ∙ wrote-join (move_leaf from to (leaf_of l) s p e) d o q o₁ d₁ h (λ r. pick (says c (value_at from (leaf_of l) s p e)) (move from to (layout_of x) s r e) (move from to (layout_of u) s r e))
        ∙ ap (λ (y : Bool). wrote (pick y (move from to (layout_of x) s q e) (move from to (layout_of u) s q e)) d₁ o₁) (sym k)

    pub choice_first : (w : Out) → b ≡ true → w ≡ wrote (move from to (layout_of x) s q e) d₁ o₁ → MovesMember w
    unfolding pick
    choice_first w v y = rw (choice_is, v) y

    pub choice_second : (w : Out) → b ≡ false → w ≡ wrote (move from to (layout_of u) s q e) d₁ o₁ → MovesMember w
    unfolding pick
    choice_second w v y = rw (choice_is, v) y

-- ---- a row

-- a row is its first member, then the rest
row_split : (from to : Side) (m : Member) (ms : List Member) (s : List ℕ) (p e : ℕ) → moves from to (members_of (m ∷ ms)) s p e ≡ (join (member_move from to m s p e) λ q. moves from to (members_of ms) s q e)
unfolding member_move move
row_split from to member.Blank ms s p e = refl
row_split from to (member.Known w) ms s p e = refl
row_split from to (member.Leaf f l) ms s p e = refl
row_split from to (member.Part f x) ms s p e = refl
row_split from to (member.Maybe f x) ms s p e = refl
row_split from to (member.Flag f) ms s p e = refl
row_split from to (member.Choice f l c g x y) ms s p e = refl

pub row_next : (ms : List Member) (m : Member) (k w : ℕ) (from to : Side) (s : List ℕ) (p e : ℕ) (d : List ℕ) (o q o₁ : ℕ) (d₁ : List ℕ) → length ms ≡ w → k < w
    → (q, o₁, d₁) ≡ wrote (member_move from to (get_or ms k m) s p e) d o → wrote (moves from to (rest k ms) s p e) d o ≡ wrote (moves from to (rest (k + 1) ms) s q e) d₁ o₁
unfolding rest
row_next ms m k w from to s p e d o q o₁ d₁ n r g =
    rw (one_more_lem ms m k w n r, row_split from to (get_or ms k m) (drop (k + 1) ms) s p e)
    (wrote-join (member_move from to (get_or ms k m) s p e) d o q o₁ d₁ g (λ q. moves from to (members_of (drop (k + 1) ms)) s q e))

pub row_over : (from to : Side) (x : Row) (ms : List Member) (s : List ℕ) (a p e k w : ℕ) (d₀ d : List ℕ) (o₀ o : ℕ) → row_of x ≡ members_of ms → length ms ≡ w → w ≤ k
    → wrote (moves from to (members_of ms) s a e) d₀ o₀ ≡ wrote (moves from to (rest k ms) s p e) d o → (p, o, d) ≡ wrote (moves from to (row_of x) s a e) d₀ o₀
unfolding move wrote advance put
row_over from to x ms s a p e k w d₀ d o₀ o j n h g = sym (ap (λ (r : Members). wrote (moves from to r s a e) d₀ o₀) j ∙ g ∙ rw (none_left ms k w n h))

pub row_first : (from to : Side) (ms : List Member) (s : List ℕ) (p e : ℕ) (d : List ℕ) (o : ℕ) → wrote (moves from to (members_of ms) s p e) d o ≡ wrote (moves from to (rest 0 ms) s p e) d o
unfolding rest
row_first from to ms s p e d o = refl

-- ---- a list's items

module _ (from to : Side) (i : Item) (m k n : ℕ) (s : List ℕ) (p e : ℕ) (d : List ℕ) (o : ℕ) where
  fewer : k < m → m - k ≡ suc (m - (k + 1))
  fewer h = omega arith

  pub list_on : (b : Bool) (q o₁ : ℕ) (d₁ : List ℕ) → k < m → b ≡ more from k n p e → b ≡ true → (q, o₁, d₁) ≡ wrote (move from to i s p e) d o
      → wrote_body (list_move from to i m k n s p e) d o ≡ wrote_body (list_move from to i m (k + 1) n s q e) d₁ o₁
  unfolding list_move move_many pick
  list_on b q o₁ d₁ h j u g =
      let r : k + 1 ≡ suc k = add-one k in
      rw (fewer h, ← j, u, r) (wrote_body-join (move from to i s p e) d o q o₁ d₁ g (λ q. move_many from (λ q. move from to i s q e) (m - suc k) (suc k) n q e))

  pub list_stop : (b : Bool) → k < m → b ≡ more from k n p e → b ≡ false → (p, k, o, d) ≡ wrote_body (list_move from to i m k n s p e) d o
  unfolding list_move move_many pick wrote_body advance put
  list_stop b h j u = rw (fewer h, ← j, u)

  pub list_over : m ≤ k → (p, k, o, d) ≡ wrote_body (list_move from to i m k n s p e) d o
  unfolding list_move move_many wrote_body advance put
  list_over h = let z : m - k ≡ 0 = omega arith in rw z

  pub list_full : m ≤ k → k ≤ m → (p, m, o, d) ≡ wrote_body (list_move from to i m k n s p e) d o
  list_full h l = let y : m ≡ k = omega arith in ap (λ (j : ℕ). (p, j, o, d)) y ∙ list_over h

-- ---- an item that fits

module _ (m : Moved) (q n : ℕ) (c c' : List ℕ) (g : (q, n, c') ≡ wrote m c 0) (most : ℕ) (d : List ℕ) where
  size_is : n ≡ advance 0 (length m.1)
  unfolding wrote
  size_is = ap (λ (w : Out). w.1) g

  next_is : q ≡ m.0
  unfolding wrote
  next_is = ap (λ (w : Out). w.0) g

  pub within_large : most < n → (q, n, d) ≡ wrote_within most m d
  unfolding wrote_within pick
  within_large h = rw (next_is, ← size_is, lt-ltb most n h)

  module _ (h : n ≤ most) where
    pub within_short : length d < n → (q, n, d) ≡ wrote_within most m d
    unfolding wrote_within pick
    within_short k = rw (next_is, ← size_is, le-ltb most n h, lt-ltb (length d) n k)

    pub within_all : (w : Out) → n ≤ length d → w ≡ wrote m d 0 → w ≡ wrote_within most m d
    unfolding wrote_within pick
    within_all w k f = rw (← size_is, le-ltb most n h, le-ltb (length d) n k) f

-- what its size says of the destination
module _ (m : Moved) (most : ℕ) (d : List ℕ) (q n : ℕ) (d' : List ℕ) (g : (q, n, d') ≡ wrote_within most m d) where
  pub fitted_size : n ≡ advance 0 (length m.1)
  unfolding wrote_within wrote pick
  fitted_size = ap (λ (w : Out). w.1) g ∙ go (ltb most (advance 0 (length m.1))) (ltb (length d) (advance 0 (length m.1)))
    where
      go : (a b : Bool) → (pick {A = Out} a (m.0, advance 0 (length m.1), d) (pick b (m.0, advance 0 (length m.1), d) (m.0, advance 0 (length m.1), put d 0 m.1))).1 ≡ advance 0 (length m.1)
      go true b = refl
      go false true = refl
      go false false = refl

  pub fitted_large : most < n → d' ≡ d
  unfolding wrote_within pick
  fitted_large h = ap (λ (w : Out). w.2) g ∙ rw (← fitted_size, lt-ltb most n h)

  module _ (h : n ≤ most) where
    pub fitted_short : length d < n → d' ≡ d
    unfolding wrote_within pick
    fitted_short k = ap (λ (w : Out). w.2) g ∙ rw (← fitted_size, le-ltb most n h, lt-ltb (length d) n k)

    pub fitted_all : n ≤ length d → d' ≡ put d 0 m.1
    unfolding wrote_within pick wrote
    fitted_all k = ap (λ (w : Out). w.2) g ∙ rw (← fitted_size, le-ltb most n h, le-ltb (length d) n k)

-- ---- what each function's answers are found by

pub ruleset item-steps = (item_leaf, item_node, item_list, item_wrap)

pub ruleset held_steps = (held-bare, held_closed, held-stored, held_measured)

pub ruleset content-steps = (content_leaf, content_node, content_list, content_wrap)

pub ruleset member-steps = (member_blank, member_known, member_leaf, member_part, member_flag, maybe_there, maybe_gone, choice_first, choice_second)

pub ruleset list_steps = (list_stop, list_full)

-- what is called is smaller
pub ruleset smaller = (below, node_holds, node_less, list_holds, list_less, wrap_holds, wrap_less, part_less, maybe_less, first_less, second_less, member_less, holds-stored, holds_measured, holds_content, measured_stored, measured_content, stored_content)
