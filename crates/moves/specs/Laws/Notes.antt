-- What is noted at each step, and what is known before it. Assumes nothing.
use Rattle.std.specs.Prelude.{◌≡◌, true, false, ◌&&◌, length, get_or, set, drop, ltb}
use Rattle.std.proofs.Math.Path.{refl, sym, ap}
use Rattle.std.proofs.Common.{◌∙◌, subst, ltb→lt}
use Prim.Native.Nat.{ℕ, suc, ◌+◌, ◌-◌, ◌≤◌, ◌<◌}
use native.Mathlib.Omega.{arith}
use Rattle.std.proofs.Math.Numerals.{add-one}
use Rattle.std.proofs.Math.Nat.{sub-zero}
use Rattle.std.proofs.Math.Bool.{Bool}
use mathlib.Core.List.{List, [], ◌∷◌, ◌++◌}
use Rattle.std.proofs.Math.Seq.{set_out}
use Rattle.terms.specs.declared.Field.{Field}
use Rattle.terms.specs.Answer.{pick}
use Rattle.terms.specs.Laws.Answer.{and_l, and_r, is_true}
use Rattle.tags.specs.declared.Tag.{Tag}
use Rattle.tags.specs.Tag.{tag_byte}
use Rattle.layouts.specs.Layout.{Item, Members, tag_of}
use Rattle.primitives.specs.declared.Content.{Content}
use Rattle.primitives.specs.declared.Primitive.{Primitive}
use Rattle.primitives.specs.declared.Word.{Word}
use Rattle.primitives.specs.Primitive.{leaf_of, says}
use Rattle.structures.specs.declared.Row.{Row}
use Rattle.structures.specs.declared.Structure.{Structure}
use Rattle.structures.specs.declared.Build.{Build}
use Rattle.structures.specs.declared.Build.TheVariants as build
use Rattle.structures.specs.Structure.{row_of, layout_of, item_of}
use Rattle.rows.specs.declared.Member.{Member}
use Rattle.rows.specs.declared.Member.TheVariants as member
use Rattle.rows.specs.Row.{members_of}
use Rattle.rows.specs.Size.{from as rest, one_more_lem, none_left}
use Rattle.sides.specs.declared.Side.{Side}
use Rattle.sides.specs.Move.{open_at, more, present_at, value_at, move_leaf, move}
use Rattle.stores.specs.Store.{cap, advance, puts}
use Rattle.stores.specs.Laws.Store.{puts_then, puts_none}
use Rattle.pieces.specs.Piece.{wrote}
use Rattle.moves.specs.Walk.{bare, inside, member_move, wrote_body}
use Rattle.moves.specs.Notes.{note_by, note_of, notes_many, notes, notes_all, inside_notes, held_notes, front_notes, member_notes, list_notes, Ready}
use Rattle.moves.specs.Laws.Table.{ready_known, ready_read, ready_first, ready_rest, noted, noted_ready, noted_again, passed, passed_ready}

-- ---- notes that are the same

pub as_puts : (t : List ℕ) (j : ℕ) (w : ℕ × List ℕ) (x y : List ℕ) → w ≡ puts x t j → x ≡ y → w ≡ puts y t j
as_puts t j w x y g e = g ∙ ap (λ (z : List ℕ). puts z t j) e

pub as_none : (t : List ℕ) (j : ℕ) (y : List ℕ) → y ≡ [] → (j, t) ≡ puts y t j
as_none t j y e = puts_none t j ∙ ap (λ (z : List ℕ). puts z t j) (sym e)

pub as_ready : (b : Bool) (t : List ℕ) (j : ℕ) (x y : List ℕ) → Ready b y t j → x ≡ y → Ready b x t j
as_ready b t j x y h e = subst (λ (z : List ℕ). Ready b z t j) (sym e) h

-- ---- a note

noted-slot : (n m : ℕ) (known q : Bool) → q ≡ (known && ltb n m) → q ≡ true → n < m
noted-slot n m known q g u = ltb→lt n m (and_r known (ltb n m) (rw (← g, u) tt))

-- ---- an item

module _ (from to : Side) (s : List ℕ) (p e : ℕ) (x : Structure) (k : Build) (l : layout_of x ≡ item_of k) where
  as_item : (i : Build) → k ≡ i → layout_of x ≡ item_of i
  as_item i h = l ∙ ap item_of h

  pub leaf_notes : (c : Primitive) → k ≡ build.Leaf c → notes from to (layout_of x) s p e ≡ []
  unfolding notes
  leaf_notes c i = rw (as_item (build.Leaf c) i)

  pub node_notes : (t : Tag) (m : Row) → k ≡ build.Node t m → held_notes from to (layout_of x) (tag_byte t) false s p e ≡ notes from to (layout_of x) s p e
  unfolding notes held_notes inside inside_notes
  node_notes t m i = rw (as_item (build.Node t m) i)

  pub list-notes : (t : Tag) (v : Bool) (n : ℕ) (f : Field) (u : Structure) → k ≡ build.List t v n f u → held_notes from to (layout_of x) (tag_byte t) true s p e ≡ notes from to (layout_of x) s p e
  unfolding notes held_notes inside inside_notes
  list-notes t v n f u i = rw (as_item (build.List t v n f u) i)

  pub wrap_notes : (t : Tag) (u : Structure) → k ≡ build.Wrap t u → held_notes from to (layout_of x) (tag_byte t) false s p e ≡ notes from to (layout_of x) s p e
  unfolding notes held_notes inside inside_notes
  wrap_notes t u i = rw (as_item (build.Wrap t u) i)

-- ---- what stands in an item

module _ (from to : Side) (s : List ℕ) (n p e : ℕ) (x : Structure) (k : Build) (l : layout_of x ≡ item_of k) where
  pub no_notes : (c : Primitive) → k ≡ build.Leaf c → inside_notes from to (layout_of x) s n p e ≡ []
  unfolding inside_notes
  no_notes c i = rw (l, i)

  pub row-notes : (t : Tag) (m : Row) → k ≡ build.Node t m → notes_all from to (row_of m) s p e ≡ inside_notes from to (layout_of x) s n p e
  unfolding inside_notes
  row-notes t m i = rw (l, i)

  pub items-notes : (t : Tag) (v : Bool) (m : ℕ) (f : Field) (u : Structure) → k ≡ build.List t v m f u → list_notes from to (layout_of u) m 0 n s p e ≡ inside_notes from to (layout_of x) s n p e
  unfolding inside_notes list_notes
  items-notes t v m f u i = rw (l, i, sub-zero m)

  pub wrapped_notes : (t : Tag) (u : Structure) → k ≡ build.Wrap t u → notes from to (layout_of u) s p e ≡ inside_notes from to (layout_of x) s n p e
  unfolding inside_notes
  wrapped_notes t u i = rw (l, i)

-- ---- an item that holds others

module _ (from to : Side) (s : List ℕ) (p e : ℕ) (x : Structure) (t : Tag) (listed : Bool) (c a z : ℕ) (h : (c, a, z) ≡ open_at from (tag_byte t) listed s p e) (b : Bool) (i : b ≡ bare to listed) where
  pub bare-notes : b ≡ true → inside_notes from to (layout_of x) s c a z ≡ held_notes from to (layout_of x) (tag_byte t) listed s p e
  unfolding held_notes pick
  bare-notes g = rw (← h, ← i, g)

  pub front-notes : b ≡ false → front_notes from to (layout_of x) s c a z ≡ held_notes from to (layout_of x) (tag_byte t) listed s p e
  unfolding held_notes front_notes pick
  front-notes g = rw (← h, ← i, g)

  -- a note that stands in the table
  module _ (j : b ≡ false) (d : List ℕ) (n m : ℕ) (known q : Bool) (r : Ready known (held_notes from to (layout_of x) (tag_byte t) listed s p e) d n) (g : q ≡ (known && ltb n m)) (u : q ≡ true) where
    pub table_ready : Ready true (front_notes from to (layout_of x) s c a z) d n
    table_ready =
        ready_known known (front_notes from to (layout_of x) s c a z) d n (is_true known (and_l known (ltb n m) (rw (← g, u) tt))) (as_ready known d n _ _ r (front-notes j))

    pub table_note : (v : ℕ) → v ≡ get_or d n 0 → m ≡ length d → v ≡ note_of to (inside from to (layout_of x) s c a z)
    unfolding front_notes
    table_note v w l =
        let o : n < m = noted-slot n m known q g u in
        w ∙ ready_read (note_of to (inside from to (layout_of x) s c a z)) (inside_notes from to (layout_of x) s c a z) d n 0 table_ready (omega arith)

module _ (from to : Side) (x : Structure) (s : List ℕ) (c a z : ℕ) (d : List ℕ) (n m : ℕ) (i : m ≡ advance n 1) where
  -- known before what stands in it
  module _ (h : Ready true (front_notes from to (layout_of x) s c a z) d n) where
    pub inside_ready : Ready true (inside_notes from to (layout_of x) s c a z) d m
    unfolding front_notes
    inside_ready = passed_ready _ _ d n m i h

    pub inside-passed : (w : ℕ × List ℕ) → w ≡ puts (inside_notes from to (layout_of x) s c a z) d m → w ≡ puts (front_notes from to (layout_of x) s c a z) d n
    unfolding front_notes
    inside-passed w g = passed _ _ d n m i h w g

-- measured
module _ (from to : Side) (x : Structure) (s : List ℕ) (c a z : ℕ) (q j r : ℕ) (none none' : List ℕ) (g : (q, j, r, none') ≡ wrote_body (inside from to (layout_of x) s c a z) none 0) (v : ℕ) (u : v ≡ note_by to j r) where
  pub note_is : v ≡ note_of to (inside from to (layout_of x) s c a z)
  unfolding wrote_body
  note_is = u ∙ ap (λ (w : ℕ × ℕ × ℕ × List ℕ). note_by to w.1 w.2) g

  -- and noted after what stands in it
  module _ (d : List ℕ) (n m₁ m : ℕ) (d₁ d₂ : List ℕ) (k : d₂ ≡ set d₁ n v) (f : (m₁, d₁) ≡ puts (inside_notes from to (layout_of x) s c a z) d m) (i : m ≡ advance n 1) (o : length d ≤ cap) where
    note_put : d₂ ≡ set d₁ n (note_of to (inside from to (layout_of x) s c a z))
    note_put = k ∙ ap (set d₁ n) note_is

    pub inside-noted : (m₁, d₂) ≡ puts (front_notes from to (layout_of x) s c a z) d n
    unfolding front_notes
    inside-noted = noted _ _ d n m i m₁ d₁ d₂ f note_put o

    pub inside_known : Ready true (front_notes from to (layout_of x) s c a z) d₂ n
    unfolding front_notes
    inside_known = noted_ready _ _ d n m i m₁ d₁ d₂ f note_put o

    pub inside_again : (w : ℕ × List ℕ) → w ≡ puts (front_notes from to (layout_of x) s c a z) d₂ n → w ≡ puts (front_notes from to (layout_of x) s c a z) d n
    unfolding front_notes
    inside_again w y = noted_again _ _ d n m i m₁ d₁ d₂ f note_put o w y

-- ---- a member

module _ (from to : Side) (m : Member) (s : List ℕ) (p e : ℕ) where
  pub blank-notes : m ≡ member.Blank → member_notes from to m s p e ≡ []
  unfolding member_notes
  blank-notes i = rw i

  pub known_notes : (c : Word) → m ≡ member.Known c → member_notes from to m s p e ≡ []
  unfolding member_notes
  known_notes c i = rw i

  pub primitive_notes : (f : Field) (l : Primitive) → m ≡ member.Leaf f l → member_notes from to m s p e ≡ []
  unfolding member_notes
  primitive_notes f l i = rw i

  pub flag_notes : (f : Field) → m ≡ member.Flag f → member_notes from to m s p e ≡ []
  unfolding member_notes
  flag_notes f i = rw i

  pub part-notes : (f : Field) (x : Structure) → m ≡ member.Part f x → notes from to (layout_of x) s p e ≡ member_notes from to m s p e
  unfolding member_notes
  part-notes f x i = ap (λ (k : Member). member_notes from to k s p e) (sym i)

  module _ (f : Field) (x : Structure) (t : Tag) (b : Bool) (a : ℕ) (i : m ≡ member.Maybe f x) (j : tag_byte t ≡ tag_of (layout_of x)) (h : (b, a) ≡ present_at from (tag_byte t) s p e) where
    maybe_is : member_notes from to m s p e ≡ pick b (notes from to (layout_of x) s a e) []
    unfolding member_notes notes
    maybe_is =
        ap (λ (k : Member). member_notes from to k s p e) i
        ∙ ap (λ (w : Bool × ℕ). pick w.0 (notes from to (layout_of x) s w.1 e) []) (ap (λ (y : ℕ). present_at from y s p e) (sym j) ∙ sym h)

    pub there-notes : b ≡ true → notes from to (layout_of x) s a e ≡ member_notes from to m s p e
    unfolding pick
    there-notes u = rw (maybe_is, u)

    pub gone_notes : b ≡ false → member_notes from to m s p e ≡ []
    unfolding pick
    gone_notes u = rw (maybe_is, u)

  module _ (f : Field) (l : Primitive) (c : Content) (g : Field) (x u : Structure) (i : m ≡ member.Choice f l c g x u) (d : List ℕ) (o q o₁ : ℕ) (d₁ : List ℕ) (h : (q, o₁, d₁) ≡ wrote (move_leaf from to (leaf_of l) s p e) d o)
      (b : Bool) (k : b ≡ says c (value_at from (leaf_of l) s p e)) where
    choice_notes : member_notes from to m s p e ≡ pick b (notes from to (layout_of x) s q e) (notes from to (layout_of u) s q e)
    unfolding member_notes notes wrote
    choice_notes =
        let n : (move_leaf from to (leaf_of l) s p e).0 ≡ q = sym (ap (λ (w : ℕ × ℕ × List ℕ). w.0) h) in
        ap (λ (y : Member). member_notes from to y s p e) i ∙ rw (n, ← k) refl

    pub first-notes : b ≡ true → notes from to (layout_of x) s q e ≡ member_notes from to m s p e
    unfolding pick
    first-notes v = rw (choice_notes, v)

    pub second-notes : b ≡ false → notes from to (layout_of u) s q e ≡ member_notes from to m s p e
    unfolding pick
    second-notes v = rw (choice_notes, v)

-- ---- a row

notes_split : (from to : Side) (m : Member) (ms : List Member) (s : List ℕ) (p e : ℕ)
    → notes_all from to (members_of (m ∷ ms)) s p e ≡ member_notes from to m s p e ++ notes_all from to (members_of ms) s (member_move from to m s p e).0 e
unfolding member_notes notes member_move move
notes_split from to member.Blank ms s p e = refl
notes_split from to (member.Known w) ms s p e = refl
notes_split from to (member.Leaf f l) ms s p e = refl
notes_split from to (member.Part f x) ms s p e = refl
notes_split from to (member.Maybe f x) ms s p e = refl
notes_split from to (member.Flag f) ms s p e = refl
notes_split from to (member.Choice f l c g x y) ms s p e = refl

module _ (ms : List Member) (d : Member) (k w : ℕ) (n : length ms ≡ w) (r : k < w) (from to : Side) (s : List ℕ) (p e : ℕ) where
  rest_split : notes_all from to (rest k ms) s p e ≡ member_notes from to (get_or ms k d) s p e ++ notes_all from to (rest (k + 1) ms) s (member_move from to (get_or ms k d) s p e).0 e
  unfolding rest
  rest_split = rw (one_more_lem ms d k w n r) (notes_split from to (get_or ms k d) (drop (k + 1) ms) s p e)

  module _ (b : Bool) (t : List ℕ) (j : ℕ) (h : Ready b (notes_all from to (rest k ms) s p e) t j) where
    pub member_ready : Ready b (member_notes from to (get_or ms k d) s p e) t j
    member_ready = ready_first b _ _ t j (as_ready b t j _ _ h (sym rest_split))

    pub rest_ready : (q o o₁ : ℕ) (y y₁ : List ℕ) (j₁ : ℕ) (t₁ : List ℕ) → (q, o₁, y₁) ≡ wrote (member_move from to (get_or ms k d) s p e) y o
        → (j₁, t₁) ≡ puts (member_notes from to (get_or ms k d) s p e) t j → Ready b (notes_all from to (rest (k + 1) ms) s q e) t₁ j₁
    unfolding wrote
    rest_ready q o o₁ y y₁ j₁ t₁ f g =
        let u : q ≡ (member_move from to (get_or ms k d) s p e).0 = ap (λ (w : ℕ × ℕ × List ℕ). w.0) f in
        rw u (ready_rest b _ _ t j j₁ t₁ (as_ready b t j _ _ h (sym rest_split)) g)

  pub rest_puts : (t : List ℕ) (j q o o₁ : ℕ) (y y₁ : List ℕ) (j₁ : ℕ) (t₁ : List ℕ) → (q, o₁, y₁) ≡ wrote (member_move from to (get_or ms k d) s p e) y o
      → (j₁, t₁) ≡ puts (member_notes from to (get_or ms k d) s p e) t j → puts (notes_all from to (rest k ms) s p e) t j ≡ puts (notes_all from to (rest (k + 1) ms) s q e) t₁ j₁
  unfolding wrote
  rest_puts t j q o o₁ y y₁ j₁ t₁ f g =
      let u : q ≡ (member_move from to (get_or ms k d) s p e).0 = ap (λ (w : ℕ × ℕ × List ℕ). w.0) f in
      rw (u, rest_split) (sym (puts_then _ t j j₁ t₁ g _))

module _ (from to : Side) (x : Row) (ms : List Member) (s : List ℕ) (i : row_of x ≡ members_of ms) where
  pub first_ready : (p e : ℕ) (b : Bool) (t : List ℕ) (j : ℕ) → Ready b (notes_all from to (row_of x) s p e) t j → Ready b (notes_all from to (rest 0 ms) s p e) t j
  unfolding rest
  first_ready p e b t j h = rw (← i) h

  pub rest_over : (a p e k w : ℕ) (t₀ t : List ℕ) (j₀ j : ℕ) → length ms ≡ w → w ≤ k → puts (notes_all from to (members_of ms) s a e) t₀ j₀ ≡ puts (notes_all from to (rest k ms) s p e) t j
      → (j, t) ≡ puts (notes_all from to (row_of x) s a e) t₀ j₀
  unfolding notes
  rest_over a p e k w t₀ t j₀ j n h g = sym (ap (λ (r : Members). puts (notes_all from to r s a e) t₀ j₀) i ∙ g ∙ rw (none_left ms k w n h) (sym (puts_none t j)))

pub rest_first : (from to : Side) (ms : List Member) (s : List ℕ) (p e : ℕ) (t : List ℕ) (j : ℕ) → puts (notes_all from to (members_of ms) s p e) t j ≡ puts (notes_all from to (rest 0 ms) s p e) t j
unfolding rest
rest_first from to ms s p e t j = refl

-- ---- a list's items

module _ (from to : Side) (i : Item) (m k n : ℕ) (s : List ℕ) (p e : ℕ) where
  left : k < m → m - k ≡ suc (m - (k + 1))
  left h = omega arith

  list_split : (b : Bool) → k < m → b ≡ more from k n p e → b ≡ true → list_notes from to i m k n s p e ≡ notes from to i s p e ++ list_notes from to i m (k + 1) n s (move from to i s p e).0 e
  unfolding list_notes notes_many pick
  list_split b h j u = let r : k + 1 ≡ suc k = add-one k in rw (left h, ← j, u, r)

  module _ (c : Bool) (t : List ℕ) (o : ℕ) (y : Ready c (list_notes from to i m k n s p e) t o) (h : k < m) (b : Bool) (j : b ≡ more from k n p e) (v : b ≡ true) where
    pub one_ready : Ready c (notes from to i s p e) t o
    one_ready = ready_first c _ _ t o (as_ready c t o _ _ y (sym (list_split b h j v)))

    pub more_ready : (q z z₁ : ℕ) (d d₁ : List ℕ) (o₁ : ℕ) (t₁ : List ℕ) → (q, z₁, d₁) ≡ wrote (move from to i s p e) d z → (o₁, t₁) ≡ puts (notes from to i s p e) t o
        → Ready c (list_notes from to i m (k + 1) n s q e) t₁ o₁
    unfolding wrote
    more_ready q z z₁ d d₁ o₁ t₁ f g =
        let u : q ≡ (move from to i s p e).0 = ap (λ (w : ℕ × ℕ × List ℕ). w.0) f in
        rw u (ready_rest c _ _ t o o₁ t₁ (as_ready c t o _ _ y (sym (list_split b h j v))) g)

  pub list_puts : (t : List ℕ) (o q z z₁ : ℕ) (d d₁ : List ℕ) (o₁ : ℕ) (t₁ : List ℕ) (b : Bool) → (q, z₁, d₁) ≡ wrote (move from to i s p e) d z → (o₁, t₁) ≡ puts (notes from to i s p e) t o
      → k < m → b ≡ more from k n p e → b ≡ true → puts (list_notes from to i m k n s p e) t o ≡ puts (list_notes from to i m (k + 1) n s q e) t₁ o₁
  unfolding wrote
  list_puts t o q z z₁ d d₁ o₁ t₁ b f g h j v =
      let u : q ≡ (move from to i s p e).0 = ap (λ (w : ℕ × ℕ × List ℕ). w.0) f in
      rw (u, list_split b h j v) (sym (puts_then _ t o o₁ t₁ g _))

  pub list_stopped : (t : List ℕ) (o : ℕ) (b : Bool) → k < m → b ≡ more from k n p e → b ≡ false → (o, t) ≡ puts (list_notes from to i m k n s p e) t o
  unfolding list_notes notes_many pick
  list_stopped t o b h j u = rw (left h, ← j, u) (puts_none t o)

  pub list_full : (t : List ℕ) (o : ℕ) → m ≤ k → (o, t) ≡ puts (list_notes from to i m k n s p e) t o
  unfolding list_notes notes_many
  list_full t o h = let z : m - k ≡ 0 = omega arith in rw z (puts_none t o)

-- ---- what the notes of each function are found by

pub ruleset same-notes = (as_puts, as_none, as_ready, leaf_notes, node_notes, list-notes, wrap_notes, no_notes, row-notes, items-notes, wrapped_notes, bare-notes, front-notes)

pub ruleset member-notes = (as_puts, as_none, as_ready, blank-notes, known_notes, primitive_notes, flag_notes, part-notes, there-notes, gone_notes, first-notes, second-notes)
