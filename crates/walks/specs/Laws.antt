-- What the functions over the table answer, a law for each step. Assumes nothing.
use Rattle.std.proofs.Math.Path.{◌≡◌, refl, sym, ap}
use Rattle.std.proofs.Common.{◌∙◌}
use Prim.Native.Nat.{ℕ, suc, zero, ◌+◌, ◌-◌, ◌≤◌, ◌<◌}
use native.Mathlib.Omega.{arith}
use Rattle.std.proofs.Math.Numerals.{add-one}
use Rattle.std.proofs.Math.Nat.{sub-zero}
use Rattle.std.specs.Prelude.{Bool, true, false, ◌||◌, length, get_or, drop, Ok, Err}
use mathlib.Core.List.{List, ◌∷◌}
use Rattle.std.proofs.Math.Seq.{slice}
use Rattle.std.proofs.Math.Dec.{ltb}
use borrow.Author.Tests.{lt-ltb, le-ltb}
use Rattle.terms.specs.declared.Reason.{Reason}
use Rattle.terms.specs.declared.Field.{Field}
use Rattle.terms.specs.declared.Reason.TheVariants.{NoItem, TooManyItems}
use Rattle.terms.specs.Answer.{pick, Answer, refused}
use Rattle.terms.specs.declared.Refusal.{Refusal}
use Rattle.heads.specs.Scan.{head_at, outermost_at, past_of, begins_at, close_at, span}
use Rattle.heads.specs.declared.Span.{Span}
use Rattle.tags.specs.declared.Tag.{Tag}
use Rattle.tags.specs.declared.Tag.TheVariants as tag
use Rattle.tags.specs.Tag.{tag_byte}
use Rattle.contents.specs.Leaves.{Leaf, only}
use Rattle.layouts.specs.Layout.{Item, leaf, list, Members, tag_of}
use Rattle.layouts.specs.Scan.{then_seen, then_step, leaf_at, scan_many, scan, record_scan}
use Rattle.layouts.specs.Whole.{sequence}
use Rattle.layouts.proofs.Laws.Scan.{passed}
use Rattle.primitives.specs.declared.Content.{Content}
use Rattle.primitives.specs.declared.Primitive.{Primitive}
use Rattle.primitives.specs.declared.Primitive.TheVariants as primitive
use Rattle.primitives.specs.declared.Word.{Word}
use Rattle.primitives.specs.Primitive.{leaf_of, known_of, says}
use Rattle.structures.specs.declared.Row.{Row}
use Rattle.structures.specs.declared.Structure.{Structure}
use Rattle.structures.specs.declared.Build.{Build}
use Rattle.structures.specs.declared.Build.TheVariants as build
use Rattle.structures.specs.Structure.{row_of, layout_of, item_of}
use Rattle.rows.specs.declared.Member.{Member}
use Rattle.rows.specs.declared.Member.TheVariants as member
use Rattle.rows.specs.Row.{members_of}
use Rattle.rows.specs.Size.{from, one_more_lem, none_left, over}
use Rattle.layouts.specs.Marks.{noted, blamed, blaming, after_seen, after_step, tally, many_marks, marks, record_marks}
use Rattle.list_heads.specs.Head.{list_head_at}
use Rattle.entries.specs.Entry.{leaf_walk}
use Rattle.entries.specs.Laws.{both, answers, tables}
use Rattle.walks.specs.Walk.{item_walk, row_walk, member_walk, list_walk, record_walk}

-- ---- an item

-- a list whose items are counted ends where it ends
abbrev counted : ℕ → Answer ℕ → Answer ℕ
counted e (Ok n) = Ok e
counted e (Err r) = Err r

-- a list's items, counted, are its items, read
tally-many : (f : ℕ → Answer ℕ) (n j p e : ℕ) → scan_many f n p e ≡ counted e (tally f n j p e)
unfolding scan_many tally pick
tally-many f zero j p e = go (ltb p e)
  where
    go : (b : Bool) → pick b (refused TooManyItems p) (Ok e) ≡ counted e (pick b (refused TooManyItems p) (Ok j))
    go true = refl
    go false = refl
tally-many f (suc n) j p e = go (λ q. tally-many f n (suc j) q e) (ltb p e) (f p)
  where
    go : ((q : ℕ) → scan_many f n q e ≡ counted e (tally f n (suc j) q e)) → (b : Bool) (x : Answer ℕ) → pick b (then_step x λ q. scan_many f n q e) (Ok e) ≡ counted e (pick b (then_step x λ q. tally f n (suc j) q e) (Ok j))
    go h true (Ok q) = h q
    go h true (Err e) = refl
    go h false x = refl

-- what follows a head and a test follows the head that passed it
seen-passed : (h : Answer Span) (t : ℕ → ℕ → Bool) (n : Reason) (p : ℕ) (f g : ℕ → ℕ → Answer ℕ) → ((a z : ℕ) → f a z ≡ g a z)
    → (then_seen h λ a z. pick (t a z) (f a z) (refused n p)) ≡ (then_seen (then_seen h λ a z. pick (t a z) (Ok (span a z)) (refused n p)) λ a z. g a z)
unfolding pick
seen-passed (Ok i) t n p f g e = go (t i.start i.end)
  where
    go : (b : Bool) → pick b (f i.start i.end) (refused n p) ≡ (then_seen (pick b (Ok (span i.start i.end)) (refused n p)) λ a z. g a z)
    go true = e i.start i.end
    go false = refl
seen-passed (Err ee) t n p f g e = refl

after-passed : (h : Answer Span) (t : ℕ → ℕ → Bool) (n : Reason) (p : ℕ) (d : List ℕ) (f : ℕ → ℕ → List ℕ)
    → (after_seen h d λ a z. pick (t a z) (f a z) d) ≡ (after_seen (then_seen h λ a z. pick (t a z) (Ok (span a z)) (refused n p)) d λ a z. f a z)
unfolding pick
after-passed (Ok i) t n p d f = go (t i.start i.end)
  where
    go : (b : Bool) → pick b (f i.start i.end) d ≡ (after_seen (pick b (Ok (span i.start i.end)) (refused n p)) d λ a z. f a z)
    go true = refl
    go false = refl
after-passed (Err e) t n p d f = refl

-- a list is its head, then its items
module _ (t : ℕ) (o : Bool) (n : ℕ) (g : Field) (i : Item) where
  list_scan : (s : List ℕ) (p e : ℕ) → scan (list t o n g i) s p e ≡ (then_seen (list_head_at t o s p e) λ a z. counted z (tally (λ q. scan i s q z) n 0 a z))
  unfolding scan list_head_at
  list_scan s p e = seen-passed (head_at t s p e) (λ a z. o || ltb a z) NoItem p _ _ λ a z. tally-many (λ q. scan i s q z) n 0 a z

  list_marks : (f : Field) (k : ℕ) (s : List ℕ) (p e : ℕ) (d : List ℕ) → marks (list t o n g i) f k s p e d
      ≡ (after_seen (list_head_at t o s p e) (blamed f d) λ a z. after_step (tally (λ q. scan i s q z) n 0 a z) (blamed f (many_marks (λ q. scan i s q z) (λ j q x. marks i g j s q z x) n 0 a z d)) λ c.
      noted f k p z c (many_marks (λ q. scan i s q z) (λ j q x. marks i g j s q z x) n 0 a z d))
  unfolding marks list_head_at
  list_marks f k s p e d = after-passed (head_at t s p e) (λ a z. o || ltb a z) NoItem p (blamed f d) _

  -- the items of a list from its first on
  whole_list : (s : List ℕ) (p e : ℕ) (d : List ℕ) → list_walk i g n 0 s p e d ≡ (tally (λ q. scan i s q e) n 0 p e, many_marks (λ q. scan i s q e) (λ j q x. marks i g j s q e x) n 0 p e d)
  unfolding list_walk
  whole_list s p e d = rw (sub-zero n)

module _ (f : Field) (n : ℕ) (s : List ℕ) (p e : ℕ) (d : List ℕ) where
  -- a primitive item, noted, and where what follows it starts
  leaf_past : (l : Leaf) (h : Answer Span) (y : Answer ℕ) (d' : List ℕ) → (h, d') ≡ leaf_walk l f n s p e d → y ≡ past_of h → (y, d') ≡ item_walk (leaf l) f n s p e d
  unfolding leaf_walk item_walk scan marks
  leaf_past l h y d' g o = both (o ∙ passed h ∙ ap (λ (x : Answer Span). then_seen x λ a z. Ok z) (answers g)) (tables g)

  module _ (x : Structure) (k : Build) (l : layout_of x ≡ item_of k) where
    abbrev Reads : Answer ℕ → List ℕ → Type 0
    Reads y d' = (y, d') ≡ item_walk (layout_of x) f n s p e d

    pub item_leaf : (c : Primitive) (h : Answer Span) (y : Answer ℕ) (d' : List ℕ) → k ≡ build.Leaf c → (h, d') ≡ leaf_walk (leaf_of c) f n s p e d → y ≡ past_of h → Reads y d'
    unfolding item_walk
    item_leaf c h y d' i g o = rw (l, i) (leaf_past (leaf_of c) h y d' g o)

    -- `v` is the reading of the head, whose refusal is noted in `d₀`
    module _ (t : Tag) (h : Answer Span) (j : h ≡ head_at (tag_byte t) s p e) (v : Answer Span) (a : v ≡ h) (d₀ : List ℕ) (z : d₀ ≡ blaming h f d) where
      module _ (m : Row) (i : k ≡ build.Node t m) where
        pub node_refused : (r : Refusal) → v ≡ Err r → Reads (Err r) d₀
        unfolding item_walk scan marks
        node_refused r b = let g : h ≡ Err r = sym a ∙ b in both (rw (l, i, ← j, g)) (rw (l, i, ← j, g) (rw g at z))

        pub node_read : (w : Span) → v ≡ Ok w → (d₁ : List ℕ) → d₁ ≡ noted f n p w.end 0 d₀ → (r : Answer ℕ) (d₂ : List ℕ) → (r, d₂) ≡ row_walk (row_of m) n s w.start w.end d₁
            → (y : Answer ℕ) (d₃ : List ℕ) → y ≡ r → d₃ ≡ blaming r f d₂ → Reads y d₃
        unfolding item_walk row_walk scan marks
        node_read w b d₁ o r d₂ g y d₃ u q =
            let c : h ≡ Ok w = sym a ∙ b in
            let e' : d₀ ≡ d = rw c at z in
            both (rw (l, i, ← j, c) (u ∙ answers g)) (rw (l, i, ← j, c, ← answers g) (rw (tables g, o, e') at q))

      module _ (u : Structure) (i : k ≡ build.Wrap t u) where
        pub wrap_refused : (r : Refusal) → v ≡ Err r → Reads (Err r) d₀
        unfolding item_walk scan marks
        wrap_refused r b = let g : h ≡ Err r = sym a ∙ b in both (rw (l, i, ← j, g)) (rw (l, i, ← j, g) (rw g at z))

        module _ (w : Span) (b : v ≡ Ok w) (r : Answer ℕ) (d₁ : List ℕ) (g : (r, d₁) ≡ item_walk (layout_of u) f n s w.start w.end d₀) where
          opened : h ≡ Ok w
          opened = sym a ∙ b

          unblamed : d₀ ≡ d
          unblamed = rw opened at z

          pub wrap_inner : (o : Refusal) → r ≡ Err o → Reads (Err o) d₁
          unfolding item_walk scan marks
          wrap_inner o q = let g' = rw unblamed at g in both (rw (l, i, ← j, opened, ← answers g', q)) (rw (l, i, ← j, opened, ← answers g', q) (tables g'))

          pub wrap_close : (q : ℕ) → r ≡ Ok q → (c : Answer ℕ) → c ≡ close_at q w.end → (y : Answer ℕ) (d₂ : List ℕ) → y ≡ c → d₂ ≡ blaming c f d₁ → Reads y d₂
          unfolding item_walk scan marks
          wrap_close q o c m y d₂ u x = let g' = rw unblamed at g in both (rw (l, i, ← j, opened, ← answers g', o) (u ∙ m)) (rw (l, i, ← j, opened, ← answers g', o, ← m, ← tables g') x)

    module _ (t : Tag) (o : Bool) (c : ℕ) (g : Field) (u : Structure) (i : k ≡ build.List t o c g u) (h : Answer Span) (j : h ≡ list_head_at (tag_byte t) o s p e) (v : Answer Span) (a : v ≡ h) (d₀ : List ℕ) (z : d₀ ≡ blaming h f d) where
      pub list_refused : (r : Refusal) → v ≡ Err r → Reads (Err r) d₀
      unfolding item_walk
      list_refused r b =
          let q : h ≡ Err r = sym a ∙ b in
          rw (l, i) (both (rw (list_scan (tag_byte t) o c g (layout_of u) s p e, ← j, q)) (rw (list_marks (tag_byte t) o c g (layout_of u) f n s p e d, ← j, q) (rw q at z)))

      -- `y` is the reading of its items, whose refusal is noted in `d₂`
      module _ (w : Span) (b : v ≡ Ok w) (r : Answer ℕ) (d₁ : List ℕ) (m : (r, d₁) ≡ list_walk (layout_of u) g c 0 s w.start w.end d₀) (y : Answer ℕ) (q : y ≡ r) (d₂ : List ℕ) (x₂ : d₂ ≡ blaming r f d₁) where
        opened_list : h ≡ Ok w
        opened_list = sym a ∙ b

        items_read : ◌≡◌ {A = Answer ℕ × List ℕ} (r, d₁) (tally (λ q. scan (layout_of u) s q w.end) c 0 w.start w.end, many_marks (λ q. scan (layout_of u) s q w.end) (λ j q x'. marks (layout_of u) g j s q w.end x') c 0 w.start w.end d)
        items_read = let e' : d₀ ≡ d = rw opened_list at z in rw e' at m ∙ whole_list (tag_byte t) o c g (layout_of u) s w.start w.end d

        pub list_bad : (r' : Refusal) → y ≡ Err r' → Reads (Err r') d₂
        unfolding item_walk
        list_bad r' b' =
            let k' : r ≡ Err r' = sym q ∙ b' in
            rw (l, i) (both (rw (list_scan (tag_byte t) o c g (layout_of u) s p e, ← j, opened_list, ← answers items_read, k')) (rw (list_marks (tag_byte t) o c g (layout_of u) f n s p e d, ← j, opened_list, ← answers items_read, k', ← tables items_read) (rw k' at x₂)))

        pub list_all : (n' : ℕ) (d₃ : List ℕ) → y ≡ Ok n' → d₃ ≡ noted f n p w.end n' d₂ → Reads (Ok w.end) d₃
        unfolding item_walk
        list_all n' d₃ b' x' =
            let k' : r ≡ Ok n' = sym q ∙ b' in
            let y' : d₂ ≡ d₁ = rw k' at x₂ in
            rw (l, i) (both (rw (list_scan (tag_byte t) o c g (layout_of u) s p e, ← j, opened_list, ← answers items_read, k')) (rw (list_marks (tag_byte t) o c g (layout_of u) f n s p e d, ← j, opened_list, ← answers items_read, k', ← tables items_read) (rw y' at x')))

-- ---- a member

module _ (m : Member) (n : ℕ) (s : List ℕ) (p e : ℕ) (d : List ℕ) where
  abbrev ReadsPart : Answer ℕ → List ℕ → Type 0
  ReadsPart y d' = (y, d') ≡ member_walk m n s p e d

  pub member_blank : m ≡ member.Blank → ReadsPart (Ok p) d
  unfolding member_walk
  member_blank i = rw i refl

  pub member_known : (w : Word) (h : Answer Span) (y : Answer ℕ) → m ≡ member.Known w → h ≡ leaf_at (only (known_of w)) s p e → y ≡ past_of h → ReadsPart y d
  unfolding member_walk scan
  member_known w h y i j g = rw i (both (g ∙ passed h ∙ ap (λ (x : Answer Span). then_seen x λ a z. Ok z) j) refl)

  pub member_leaf : (f : Field) (l : Primitive) (h : Answer Span) (y : Answer ℕ) (d' : List ℕ) → m ≡ member.Leaf f l → (h, d') ≡ leaf_walk (leaf_of l) f n s p e d → y ≡ past_of h → ReadsPart y d'
  unfolding member_walk
  member_leaf f l h y d' i g o = rw i (leaf_past f n s p e d (leaf_of l) h y d' g o)

  pub member_part : (f : Field) (x : Structure) (y : Answer ℕ) (d' : List ℕ) → m ≡ member.Part f x → (y, d') ≡ item_walk (layout_of x) f n s p e d → ReadsPart y d'
  unfolding member_walk
  member_part f x y d' i g = g ∙ sym (ap (λ (k : Member). member_walk k n s p e d) i)

  module _ (f : Field) (x : Structure) (t : Tag) (b : Bool) (i : m ≡ member.Maybe f x) (j : tag_byte t ≡ tag_of (layout_of x)) (h : b ≡ begins_at (tag_byte t) s p e) where
    pub maybe_yes : (y : Answer ℕ) (d' : List ℕ) → b ≡ true → (y, d') ≡ item_walk (layout_of x) f n s p e d → ReadsPart y d'
    unfolding member_walk item_walk scan marks pick
    maybe_yes y d' o g = rw i (both (rw (← j, ← h, o) (answers g)) (rw (← j, ← h, o) (tables g)))

    pub maybe_no : b ≡ false → ReadsPart (Ok p) d
    unfolding member_walk scan marks pick
    maybe_no o = rw i (both (rw (← j, ← h, o)) (rw (← j, ← h, o)))

  module _ (f : Field) (b : Bool) (i : m ≡ member.Flag f) (h : b ≡ begins_at (tag_byte tag.Boolean) s p e) where
    pub flag_yes : (x : Answer Span) (y : Answer ℕ) (d' : List ℕ) → b ≡ true → (x, d') ≡ leaf_walk (leaf_of primitive.Critical) f n s p e d → y ≡ past_of x → ReadsPart y d'
    unfolding member_walk leaf_walk scan marks pick
    flag_yes x y d' o g r = rw i (both (rw (← h, o, ← answers g) (r ∙ passed x)) (rw (← h, o) (tables g)))

    pub flag_no : b ≡ false → ReadsPart (Ok p) d
    unfolding member_walk scan marks pick
    flag_no o = rw i (both (rw (← h, o)) (rw (← h, o)))

  module _ (f : Field) (l : Primitive) (c : Content) (g : Field) (x u : Structure) (i : m ≡ member.Choice f l c g x u) (h : Answer Span) (d₁ : List ℕ) (j : (h, d₁) ≡ leaf_walk (leaf_of l) f n s p e d) where
    pub choice_refused : (r : Refusal) → h ≡ Err r → ReadsPart (Err r) d₁
    unfolding member_walk leaf_walk scan marks
    choice_refused r b = rw i (both (rw (← answers j, b)) (rw (← answers j, b) (tables j)))

    module _ (v : Span) (b : h ≡ Ok v) (t : Bool) (o : t ≡ says c (slice v.start v.end s)) where
      pub choice_first : (y : Answer ℕ) (d' : List ℕ) → t ≡ true → (y, d') ≡ item_walk (layout_of x) g n s v.end e d₁ → ReadsPart y d'
      unfolding member_walk leaf_walk item_walk scan marks pick
      choice_first y d' w q = rw i (both (rw (← answers j, b, ← o, w) (answers q)) (rw (← tables j, ← answers j, b, ← o, w) (tables q)))

      pub choice_second : (y : Answer ℕ) (d' : List ℕ) → t ≡ false → (y, d') ≡ item_walk (layout_of u) g n s v.end e d₁ → ReadsPart y d'
      unfolding member_walk leaf_walk item_walk scan marks pick
      choice_second y d' w q = rw i (both (rw (← answers j, b, ← o, w) (answers q)) (rw (← tables j, ← answers j, b, ← o, w) (tables q)))

-- ---- a row

-- a row is its first member, then the rest
abbrev onward : Answer ℕ × List ℕ → (ℕ → List ℕ → Answer ℕ × List ℕ) → Answer ℕ × List ℕ
onward w k = (then_step w.0 λ q. (k q w.1).0, after_step w.0 w.1 λ q. (k q w.1).1)

row_split : (m : Member) (ms : List Member) (n : ℕ) (s : List ℕ) (p e : ℕ) (d : List ℕ) → row_walk (members_of (m ∷ ms)) n s p e d ≡ (onward (member_walk m n s p e d) λ q t. row_walk (members_of ms) n s q e t)
unfolding row_walk member_walk item_walk scan marks
row_split member.Blank ms n s p e d = refl
row_split (member.Known w) ms n s p e d = refl
row_split (member.Leaf f l) ms n s p e d = refl
row_split (member.Part f x) ms n s p e d = refl
row_split (member.Maybe f x) ms n s p e d = refl
row_split (member.Flag f) ms n s p e d = refl
row_split (member.Choice f l c g x y) ms n s p e d = refl

module _ (ms : List Member) (d : Member) (k w : ℕ) (n : length ms ≡ w) (r : k < w) (i : ℕ) (s : List ℕ) (p e : ℕ) (t : List ℕ) (x : Answer ℕ) (t' : List ℕ) (g : (x, t') ≡ member_walk (get_or ms k d) i s p e t) where
  row_step : row_walk (from k ms) i s p e t ≡ (onward (x, t') λ q t. row_walk (from (k + 1) ms) i s q e t)
  unfolding from
  row_step = rw (one_more_lem ms d k w n r, row_split (get_or ms k d) (drop (k + 1) ms) i s p e t, ← g) refl

  pub row_refused : (o : Refusal) → x ≡ Err o → (Err o, t') ≡ row_walk (from k ms) i s p e t
  row_refused o h = rw (row_step, h) refl

  pub row_next : (q : ℕ) → x ≡ Ok q → row_walk (from k ms) i s p e t ≡ row_walk (from (k + 1) ms) i s q e t'
  row_next q h = rw (row_step, h) refl

pub row_over : (ms : List Member) (i : ℕ) (s : List ℕ) (p e k w : ℕ) (t : List ℕ) (y : Answer ℕ) → length ms ≡ w → w ≤ k → y ≡ close_at p e → (y, t) ≡ row_walk (from k ms) i s p e t
unfolding row_walk scan marks
row_over ms i s p e k w t y n h g = rw (none_left ms k w n h) (both g refl)

pub row_first : (ms : List Member) (i : ℕ) (s : List ℕ) (p e : ℕ) (t : List ℕ) → row_walk (members_of ms) i s p e t ≡ row_walk (from 0 ms) i s p e t
unfolding from
row_first ms i s p e t = refl

pub row-whole : (x : Row) (ms : List Member) (i : ℕ) (s : List ℕ) (a e k p : ℕ) (t₀ t : List ℕ) (y : Answer ℕ × List ℕ) → row_of x ≡ members_of ms
    → row_walk (members_of ms) i s a e t₀ ≡ row_walk (from k ms) i s p e t → y ≡ row_walk (from k ms) i s p e t → y ≡ row_walk (row_of x) i s a e t₀
row-whole x ms i s a e k p t₀ t y h g f = f ∙ sym g ∙ ap (λ (r : Members). row_walk r i s a e t₀) (sym h)

-- ---- a list's items

module _ (i : Item) (f : Field) (n : ℕ) (s : List ℕ) (e k p : ℕ) (d : List ℕ) where
  fewer : k < n → n - k ≡ suc (n - (k + 1))
  fewer l = omega arith

  module _ (x : Answer ℕ) (d' : List ℕ) (l : k < n) (h : p < e) (g : (x, d') ≡ item_walk i f k s p e d) where
    pub many-bad : (r : Refusal) → x ≡ Err r → (Err r, d') ≡ list_walk i f n k s p e d
    unfolding list_walk item_walk tally many_marks pick
    many-bad r j = both (rw (fewer l, lt-ltb p e h, ← answers g, j)) (rw (fewer l, lt-ltb p e h, ← answers g, j) (tables g))

    pub many_on : (q : ℕ) → x ≡ Ok q → list_walk i f n k s p e d ≡ list_walk i f n (k + 1) s q e d'
    unfolding list_walk item_walk tally many_marks pick
    many_on q j =
        let r : k + 1 ≡ suc k = add-one k in
        both (rw (fewer l, lt-ltb p e h, ← answers g, j, r)) (rw (fewer l, lt-ltb p e h, ← answers g, j, ← tables g, r))

  pub many_end : e ≤ p → (Ok k, d) ≡ list_walk i f n k s p e d
  unfolding list_walk tally many_marks pick
  many_end h = go (n - k)
    where
      go : (j : ℕ) → ◌≡◌ {A = Answer ℕ × List ℕ} (Ok k, d) (tally (λ q. scan i s q e) j k p e, many_marks (λ q. scan i s q e) (λ m q x. marks i f m s q e x) j k p e d)
      go zero = both (rw (le-ltb p e h)) refl
      go (suc j) = both (rw (le-ltb p e h)) (rw (le-ltb p e h))

-- past the most items
module _ (i : Item) (f : Field) (n : ℕ) (s : List ℕ) (e p : ℕ) (d : List ℕ) where
  pub many_16 : p < e → (refused TooManyItems p, d) ≡ list_walk i f n n s p e d
  unfolding list_walk tally many_marks pick
  many_16 h = let q : n - n ≡ 0 = omega arith in both (rw (q, lt-ltb p e h)) (rw q)

-- ---- a record

module _ (most : ℕ) (r : Members) (s : List ℕ) (p e : ℕ) (d : List ℕ) (h : Answer Span) (j : h ≡ outermost_at most sequence s p e) where
  pub record_refused : (o : Refusal) → h ≡ Err o → (Err o, d) ≡ record_walk most r s p e d
  unfolding record_walk record_scan record_marks
  record_refused o b = both (rw (← j, b)) (rw (← j, b))

  pub record_row : (v : Span) (y : Answer ℕ) (d' : List ℕ) → h ≡ Ok v → (y, d') ≡ row_walk r 0 s v.start v.end d → (y, d') ≡ record_walk most r s p e d
  unfolding record_walk row_walk record_scan record_marks
  record_row v y d' b g = both (rw (← j, b) (answers g)) (rw (← j, b) (tables g))

-- ---- what each function's answers are found by

pub ruleset item-steps = (item_leaf, node_refused, node_read, list_refused, list_bad, list_all, wrap_refused, wrap_inner, wrap_close)

pub ruleset list_steps = (over, many_16, many-bad, many_end)

pub ruleset member-steps = (member_blank, member_known, member_leaf, member_part, maybe_yes, maybe_no, flag_yes, flag_no, choice_refused, choice_first, choice_second)

pub ruleset row-steps = (row-whole, row_refused, row_over)
