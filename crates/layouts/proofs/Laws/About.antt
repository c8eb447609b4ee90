-- A refused record notes behind the table of places what it is refused about: `marks` agrees with `about`, for every layout. Assumes nothing.
use Rattle.std.specs.Prelude.{◌≡◌, Bool, true, false, not, length, get_or, set, replicate, T, eqb, Ok, Err}
use Rattle.std.proofs.Math.Path.{refl}
use Rattle.std.proofs.Common.{sym, ◌∙◌, arith, length-set, get_or-set_same, lt-ltb, ne_eqb}
use Prim.Native.Nat.{ℕ, suc, zero, ◌+◌, ◌-◌, ◌≤◌, ◌<◌}
use mathlib.Core.List.{List, [], ◌∷◌, ◌++◌}
use Rattle.std.proofs.lemmas.List.{length-replicate}
use Rattle.std.proofs.Math.Seq.{take-length, slice}
use Rattle.terms.specs.declared.Reason.{Reason}
use Rattle.terms.specs.declared.Field.{Field}
use Rattle.terms.specs.Names.{code, name_of}
use Rattle.terms.specs.declared.Reason.TheVariants.{LeftOver, TooManyItems}
use Rattle.terms.specs.Answer.{Res, good, fault, Got, got, pick, bind, unread, need, enough, finish, Answer, refused}
use Rattle.terms.specs.Laws.Answer.{never, test, by_bind, is_true, is_false}
use Rattle.terms.specs.Laws.Names.{name_code}
use Rattle.terms.specs.declared.Refusal.{Refusal}
use Rattle.heads.specs.Head.{forms, Cut, outermost}
use Rattle.heads.specs.Scan.{seen, head_at, outermost_at}
use Rattle.heads.proofs.Laws.Head.{outermost_back}
use Rattle.heads.proofs.Laws.More.{inside-more}
use Rattle.contents.specs.Leaves.{Leaf, boolean, only}
use Rattle.layouts.specs.Layout.{Item, leaf, node, list, wrap, Members, end, ◌▸◌, Member, known, one, maybe, flag, choose, tag_of, Values}
use Rattle.layouts.specs.Reading.{next, read_leaf, begins, many, read_option, read_flag, read_either, read, reads, read_part}
use Rattle.layouts.specs.Whole.{sequence, record_at, accept}
use Rattle.layouts.specs.Scan.{then_step, scan, whole_scan}
use Rattle.layouts.specs.Places.{table_size}
use Rattle.layouts.specs.Marks.{noted, unblamed, blamed, blaming, after_seen, after_step, tally, many_marks, leaf_marks, marks, marks_all, marks_part, record_marks}
use Rattle.layouts.specs.About.{about_many, about, about_all, about_part, record_about}
use Rattle.layouts.specs.declared.Whose.{Whose}
use Rattle.layouts.specs.declared.Whose.TheVariants.{Nothing, Record, Field as field}
use Rattle.layouts.proofs.Laws.Scan.{by_window, Onward, step, whole, head-parts, leaf_parts, leaf_agree, begins-agree, enough-agree, close_agree, item_on, part_on, scan-read, scans-read, part-read, whole-accept}
use Rattle.layouts.proofs.Laws.Whole.{accept-more}
use Rattle.layouts.proofs.Laws.Places.{noted-size, noted-behind}

-- ---- what stands behind the table

-- whose fault it is by the number behind the table: where nothing is noted, `x`'s
unfoldable pub whose_by : Whose → ℕ → Whose
whose_by x n = pick (eqb n 0) x (field (name_of (n - 1)))

abbrev pub behind_table : List ℕ → ℕ
behind_table d = get_or d table_size 0

-- a number stands behind the table, and nothing is noted in it
abbrev pub Fresh : List ℕ → Type 0
Fresh d = (table_size < length d) × (behind_table d ≡ 0)

-- a number stands there, and says that the fault is `y`'s, where it would be `x`'s if it said nothing
abbrev Blames : Whose → Whose → List ℕ → Type 0
Blames x y d = (table_size < length d) × (whose_by x (behind_table d) ≡ y)

fresh_noted : (f : Field) (k a z n : ℕ) (d : List ℕ) → Fresh d → Fresh (noted f k a z n d)
fresh_noted f k a z n d (r, c) = (rw (noted-size f k a z n d) r, noted-behind f k a z n d table_size (omega arith) ∙ c)

fresh_blames : (x : Whose) (d : List ℕ) → Fresh d → Blames x x d
unfolding whose_by pick
fresh_blames x d (r, c) = (r, rw c)

-- a name is noted where nothing is; what was noted before it stays
blamed_blames : (f : Field) (x y : Whose) (d : List ℕ) → Blames (field f) y d → Blames x y (blamed f d)
unfolding blamed unblamed whose_by pick
blamed_blames f x y d (r, c) =
    test (eqb (behind_table d) 0)
    (λ t. let e = is_true (eqb (behind_table d) 0) t in
    let q : blamed f d ≡ set d table_size (code f + 1) = rw (lt-ltb table_size (length d) r, e) in
    let n = ne_eqb (code f + 1) 0 (λ z. omega arith) in
    let m : code f + 1 - 1 ≡ code f = omega arith in
    rw q (rw (length-set d table_size (code f + 1)) r, rw (get_or-set_same d table_size (code f + 1) 0 r, n, m, name_code f) (rw e at c)))
    (λ t. let e = is_false (eqb (behind_table d) 0) t in
    let q : blamed f d ≡ d = rw (lt-ltb table_size (length d) r, e) in
    rw q (r, rw e (rw e at c)))

-- ---- after a reading

-- after a reading nothing is noted, if it was good; else that the fault is `y`'s
abbrev After : {A : Type 0} → Res A → Whose → Whose → List ℕ → Type 0
After (good a) x y d = Fresh d
After (fault n p) x y d = Blames x y d

-- after items that are counted
abbrev AfterTally : {A : Type 0} → Answer ℕ → Res A → Whose → Whose → List ℕ → Type 0
AfterTally (Ok c) (good v) x y d = Fresh d
AfterTally (Ok c) (fault n p) x y d = ⊥
AfterTally (Err e) (good v) x y d = ⊥
AfterTally (Err e) (fault n p) x y d = Blames x y d

fresh_after : {A : Type 0} (r : Res A) (x : Whose) (d : List ℕ) → Fresh d → After r x x d
fresh_after (good a) x d h = h
fresh_after (fault n p) x d h = fresh_blames x d h

after_map : {A B : Type 0} (r : Res A) (k : A → B) (x y : Whose) (d : List ℕ) → After r x y d → After (bind r λ a. good (k a)) x y d
unfolding bind
after_map (good a) k x y d h = h
after_map (fault n p) k x y d h = h

tally-map : {A B : Type 0} (t : Answer ℕ) (r : Res A) (k : A → B) (x y : Whose) (d : List ℕ) → AfterTally t r x y d → AfterTally t (bind r λ a. good (k a)) x y d
unfolding bind
tally-map {A} {B} t (good a) k x y d h = go t h
  where
    go : (t : Answer ℕ) → AfterTally t (good a) x y d → AfterTally t (good (k a)) x y d
    go (Ok c) g = g
    go (Err e) g = g
tally-map {A} {B} t (fault n p) k x y d h = go t h
  where
    go : (t : Answer ℕ) → AfterTally {A = A} t (fault n p) x y d → AfterTally {A = B} t (fault n p) x y d
    go (Ok c) g = g
    go (Err e) g = g

-- a head, and what stands in it
after-head : {A : Type 0} (h : Res Cut) (k : Cut → Res A) (f : Field) (x : Whose) (y : Cut → Whose) (d : List ℕ) (m : ℕ → ℕ → List ℕ) → Fresh d
    → ((c : Cut) → h ≡ good c → After (k c) x (y c) (m c.start (next c))) → After (bind h k) x (unread h (field f) y) (after_seen (seen h) (blamed f d) m)
unfolding bind
after-head (good c) k f x y d m o g = g c refl
after-head (fault n p) k f x y d m o g = blamed_blames f x (field f) d (fresh_blames (field f) d o)

-- a primitive item, and what stands behind it
after-seen : {A : Type 0} (h : Res Cut) (k : Cut → Res A) (x y : Whose) (y' : Cut → Whose) (d : List ℕ) (m : ℕ → ℕ → List ℕ) → After h x y d
    → ((c : Cut) → h ≡ good c → Fresh d → After (k c) x (y' c) (m c.start (next c))) → After (bind h k) x (unread h y y') (after_seen (seen h) d m)
unfolding bind
after-seen (good c) k x y y' d m o g = g c refl o
after-seen (fault n p) k x y y' d m o g = o

-- a reading that is blamed on a name
after-blaming : {A B : Type 0} (r : Res A) (e : ℕ) (k : A → B) (f : Field) (x y : Whose) (d : List ℕ) → After r (field f) y d → After (bind r λ a. good (k a)) x y (blaming (whole e r) f d)
unfolding bind
after-blaming (good a) e k f x y d h = h
after-blaming (fault n p) e k f x y d h = blamed_blames f x y d h

-- one reading after another
after-step : {A B : Type 0} (r : Res (Got A)) (k : Got A → Res B) (x y : Whose) (y' : Got A → Whose) (d : List ℕ) (m : ℕ → List ℕ) → After r x y d
    → ((a : Got A) → r ≡ good a → Fresh d → After (k a) x (y' a) (m a.after)) → After (bind r k) x (unread r y y') (after_step (step r) d m)
unfolding bind
after-step (good a) k x y y' d m h g = g a refl h
after-step (fault n p) k x y y' d m h g = h

-- one of two readings
after-pick : {A : Type 0} (t : Bool) (r r' : Res A) (x y : Whose) (d d' : List ℕ) → After r x y d → After r' x y d' → After (pick t r r') x y (pick t d d')
unfolding pick
after-pick true r r' x y d d' h h' = h
after-pick false r r' x y d d' h h' = h'

-- a list's items, and then the list
after_list : {A B : Type 0} (t : Answer ℕ) (r : Res A) (k : A → B) (f : Field) (x y : Whose) (d : List ℕ) (m : ℕ → List ℕ) → AfterTally t r (field f) y d → ((c : ℕ) → Fresh d → Fresh (m c))
    → After (bind r λ a. good (k a)) x y (after_step t (blamed f d) m)
unfolding bind
after_list (Ok c) (good a) k f x y d m h g = g c h
after_list (Ok c) (fault n p) k f x y d m h g = absurd h
after_list (Err e) (good a) k f x y d m h g = absurd h
after_list (Err e) (fault n p) k f x y d m h g = blamed_blames f x y d h

-- an item that is left out, or one of two
after-either : {A : Type 0} (t : Bool) (r r' : Res A) (x y y' : Whose) (d d' : List ℕ) → After r x y d → After r' x y' d' → After (pick t r r') x (pick t y y') (pick t d d')
unfolding pick
after-either true r r' x y y' d d' h h' = h
after-either false r r' x y y' d d' h h' = h'

-- a list with no item is refused itself
about_none : {A : Type 0} (f : List ℕ → ℕ → Res (Got A)) (g : List ℕ → ℕ → Whose) (x : Whose) (n b : ℕ) → about_many f g x n [] b ≡ x
unfolding about_many
about_none f g x zero b = refl
about_none f g x (suc n) b = refl

pub not-enough : (o : Bool) (w : List ℕ) → T (not (enough o w)) → w ≡ []
unfolding enough
not-enough true w h = absurd h
not-enough false [] h = refl
not-enough false (a ∷ w) h = absurd h

-- ---- every layout

module _ (s : List ℕ) where
  -- a primitive item
  leaf_after : (l : Leaf) (f : Field) (k p e : ℕ) → p ≤ e → e ≤ length s → (x : Whose) (d : List ℕ) → Fresh d → After (read_leaf l (slice p e s) p) x (field f) (leaf_marks l f k s p e d)
  unfolding leaf_marks
  leaf_after l f k p e pe es x d o = rw (leaf_agree s l p e pe es) (go (read_leaf l (slice p e s) p))
    where
      go : (h : Res Cut) → After h x (field f) (after_seen (seen h) (blamed f d) λ a z. noted f k a z 0 d)
      go (good c) = fresh_noted f k c.start (next c) 0 d o
      go (fault n q) = blamed_blames f x (field f) d (fresh_blames (field f) d o)

  -- a list's items
  module _ {A : Type 0} (f : ℕ → Answer ℕ) (m : ℕ → ℕ → List ℕ → List ℕ) (g : List ℕ → ℕ → Res (Got A)) (y : List ℕ → ℕ → Whose) (x : Whose) (e : ℕ) (es : e ≤ length s)
      (like : (p : ℕ) → p ≤ e → f p ≡ step (g (slice p e s) p))
      (on : (p : ℕ) → p ≤ e → (v : Got A) → g (slice p e s) p ≡ good v → Onward s p e v.rest v.after)
      (mark : (j p : ℕ) → p ≤ e → (d : List ℕ) → Fresh d → After (g (slice p e s) p) x (y (slice p e s) p) (m j p d)) where
    many-after : (n j p : ℕ) → p ≤ e → (d : List ℕ) → Fresh d → AfterTally (tally f n j p e) (many g n (slice p e s) p) x (about_many g y x n (slice p e s) p) (many_marks f m n j p e d)
    unfolding tally many_marks many about_many pick bind
    many-after zero j p pe d o =
        by_window s p e (λ u w. AfterTally (pick u (refused TooManyItems p) (Ok j)) (many g zero w p) x (about_many g y x zero w p) d) pe es o (fresh_blames x d o)
    many-after (suc n) j p pe d o =
        by_window s p e
        (λ u w. w ≡ slice p e s → AfterTally (pick u (then_step (f p) λ q. tally f n (suc j) q e) (Ok j)) (many g (suc n) w p) x (about_many g y x (suc n) w p)
        (pick u (after_step (f p) (m j p d) λ q. many_marks f m n (suc j) q e (m j p d)) d))
        pe es
        (λ w. o)
        (λ w. rw (w, like p pe) (go (λ q i c u. many-after n (suc j) q i c u) (g (slice p e s) p) refl (mark j p pe d o)))
        refl
      where
        go : ((q : ℕ) → q ≤ e → (c : List ℕ) → Fresh c → AfterTally (tally f n (suc j) q e) (many g n (slice q e s) q) x (about_many g y x n (slice q e s) q) (many_marks f m n (suc j) q e c))
            → (r : Res (Got A)) → g (slice p e s) p ≡ r → After r x (y (slice p e s) p) (m j p d)
            → AfterTally (then_step (step r) λ q. tally f n (suc j) q e) (bind r λ a. bind (many g n a.rest a.after) λ xs. good (a.value ∷ xs)) x
            (unread r (y (slice p e s) p) λ a. about_many g y x n a.rest a.after) (after_step (step r) (m j p d) λ q. many_marks f m n (suc j) q e (m j p d))
        go more (good a) q h =
            let i = on p pe a q in
            rw i.0 (tally-map (tally f n (suc j) a.after e) _ _ x _ _ (more a.after i.2 (m j p d) h))
        go more (fault c r) q h = h

  mutual
    unfolding marks read about head_at read_option read_flag read_either need pick

    -- an item that is refused notes what it is refused about
    item_after : (i : Item) (f : Field) (k p e : ℕ) → p ≤ e → e ≤ length s → (x : Whose) (d : List ℕ) → Fresh d → After (read i (slice p e s) p) x (about i f (slice p e s) p) (marks i f k s p e d)
    item_after (leaf l) f k p e pe es x d o = after_map _ _ x _ _ (leaf_after l f k p e pe es x d o)
    item_after (node t r) f k p e pe es x d o =
        after-head _ _ f x _ d _ o λ c h.
        let b = head-parts s t p e pe es c h in
        let u : c.start ≤ next c = omega arith in
        let u' : next c ≤ length s = omega arith in
        rw (scans-read s r c.start (next c) u u', ← b.0) (after-blaming _ (next c) _ f x _ _ (rw (← b.0) at (all_after r k c.start (next c) u u' (field f) (noted f k p (next c) 0 d) (fresh_noted f k p (next c) 0 d o))))
    item_after (list t k' n g i) f k p e pe es x d o =
        after-head _ _ f x _ d _ o λ c h.
        let b = head-parts s t p e pe es c h in
        let u : c.start ≤ next c = omega arith in
        let u' : next c ≤ length s = omega arith in
        let m = many-after (λ q. scan i s q (next c)) (λ j q y. marks i g j s q (next c) y) (λ y q. read i y q) (λ y q. about i g y q) (field f) (next c) u'
        (λ q a. scan-read s i q (next c) a u')
        (λ q a. item_on s i q (next c) a u')
        (λ j q a y v. item_after i g j q (next c) a u' (field f) y v)
        n 0 c.start u d o in
        let y : Answer ℕ = tally (λ q. scan i s q (next c)) n 0 c.start (next c) in
        let z : List ℕ = many_marks (λ q. scan i s q (next c)) (λ j q y. marks i g j s q (next c) y) n 0 c.start (next c) d in
        rw (enough-agree s k' c.start (next c) u u', ← b.0)
        (test (enough k' c.content)
        (λ t. rw (is_true (enough k' c.content) t) (after_list y _ _ f x _ z (λ j. noted f k p (next c) j z) (rw (← b.0) at m) λ j v. fresh_noted f k p (next c) j z v))
        (λ t. let v = not-enough k' c.content t in
        rw (is_false (enough k' c.content) t, v, about_none (λ y q. read i y q) (λ y q. about i g y q) (field f) n c.start) (blamed_blames f x (field f) d (fresh_blames (field f) d o))))
    item_after (wrap t i) f k p e pe es x d o =
        after-head _ _ f x _ d _ o λ c h.
        let b = head-parts s t p e pe es c h in
        let u : c.start ≤ next c = omega arith in
        let u' : next c ≤ length s = omega arith in
        rw (scan-read s i c.start (next c) u u', ← b.0)
        (after-step _ _ x _ _ _ _ (rw (← b.0) at (item_after i f k c.start (next c) u u' x d o)) λ a q v.
        let w = item_on s i c.start (next c) u u' a (rw (← b.0) q) in
        rw (close_agree s a (next c) w.0 w.2 u') (after-blaming (finish LeftOver a) (next c) _ f x (field f) _ (fresh_after (finish LeftOver a) (field f) _ v)))

    -- so do the members of `x`
    all_after : (r : Members) (k p e : ℕ) → p ≤ e → e ≤ length s → (x : Whose) (d : List ℕ) → Fresh d → After (reads r (slice p e s) p) x (about_all r x (slice p e s) p) (marks_all r k s p e d)
    all_after end k p e pe es x d o = fresh_after (finish LeftOver (got tt (slice p e s) p)) x d o
    all_after (m ▸ r) k p e pe es x d o =
        rw (part-read s m p e pe es)
        (after-step _ _ x _ _ _ _ (part-after m k p e pe es x d o) λ a q v.
        let w = part_on s m p e pe es a q in
        rw w.0 (after_map _ _ x _ _ (all_after r k a.after e w.2 es x _ v)))

    part-after : (m : Member) (k p e : ℕ) → p ≤ e → e ≤ length s → (x : Whose) (d : List ℕ) → Fresh d → After (read_part m (slice p e s) p) x (about_part m x (slice p e s) p) (marks_part m k s p e d)
    part-after (known w) k p e pe es x d o = after_map (read_leaf (only w) (slice p e s) p) _ x x d (fresh_after (read_leaf (only w) (slice p e s) p) x d o)
    part-after (one f i) k p e pe es x d o = item_after i f k p e pe es x d o
    part-after (maybe f i) k p e pe es x d o =
        rw (begins-agree s (tag_of i) p e pe es) (after-pick (begins (tag_of i) (slice p e s)) _ _ x _ _ _ (after_map _ _ x _ _ (item_after i f k p e pe es x d o)) o)
    part-after (flag f) k p e pe es x d o =
        rw (begins-agree s boolean.tag p e pe es) (after-pick (begins boolean.tag (slice p e s)) _ _ x _ _ _ (after_map _ _ x _ _ (leaf_after boolean f k p e pe es x d o)) o)
    part-after (choose f l t g i j) k p e pe es x d o =
        rw (leaf_agree s l p e pe es)
        (after-seen _ _ x _ _ _ _ (leaf_after l f k p e pe es x d o) λ c h v.
        let b = leaf_parts s l p e pe es c h in
        rw (← b.0, b.1)
        (after_map _ _ x _ _ (after-either (t c.content) _ _ x _ _ _ _ (after_map _ _ x _ _ (item_after i g k (next c) e b.3 es x _ v)) (after_map _ _ x _ _ (item_after j g k (next c) e b.3 es x _ v)))))

-- ---- a whole record

-- members that were read leave the refusal to what they stand in
about-read : (r : Members) (x : Whose) (w : List ℕ) (b : ℕ) (v : Values r) → reads r w b ≡ good v → about_all r x w b ≡ x
unfolding read about
about-read end x w b v h = refl
about-read (m ▸ r) x w b v h = by_bind _ _ _ h λ a e₁ e₂. by_bind _ _ _ e₂ λ y e₃ e₄. rw e₁ (about-read r x a.rest a.after y e₃)

module _ (most : ℕ) (r : Members) (s d : List ℕ) (o : Fresh d) where
  abbrev in_record : List ℕ → Whose
  in_record w = unread (outermost forms most sequence w 0) Record λ c. about_all r Record c.content c.start

  record_after : After (accept most r s) Record (in_record s) (record_marks most r s 0 (length s) d)
  unfolding accept record_at record_marks outermost_at bind
  record_after =
      let w : slice 0 (length s) s ≡ s = take-length s in
      rw w (go (outermost forms most sequence s 0) refl)
    where
      rest : (c : Cut) (y : Res (Values r)) → reads r c.content c.start ≡ y → After y Record (about_all r Record c.content c.start) (marks_all r 0 s c.start (next c) d)
          → After (bind (bind y λ v. good (got v c.rest (next c))) λ a. finish LeftOver a) Record (about_all r Record c.content c.start) (marks_all r 0 s c.start (next c) d)
      rest c (good v) q h = rw (about-read r Record c.content c.start v q) (fresh_after (finish LeftOver (got v c.rest (next c))) Record _ h)
      rest c (fault n p) q h = h

      go : (h : Res Cut) → outermost forms most sequence s 0 ≡ h
          → After (bind (bind h λ c. bind (reads r c.content c.start) λ v. good (got v c.rest (next c))) λ a. finish LeftOver a) Record (unread h Record λ c. about_all r Record c.content c.start)
          (after_seen (seen h) d λ a z. marks_all r 0 s a z d)
      go (good c) q =
          let w : slice 0 (length s) s ≡ s = take-length s in
          let b = head-parts s sequence 0 (length s) (omega arith) (omega arith) c (rw w (outermost_back most sequence s 0 c q).0) in
          rest c (reads r c.content c.start) refl (rw (← b.0) at (all_after s r 0 c.start (next c) (omega arith) (omega arith) Record d o))
      go (fault n p) q = fresh_blames Record d o

  -- what it is refused about stands behind the table
  pub about-told : (e : Refusal) → whole_scan most r s ≡ Err e → whose_by Record (behind_table (record_marks most r s 0 (length s) d)) ≡ record_about most r s
  unfolding record_about
  about-told e h = go (accept most r s) (sym (whole-accept most r s) ∙ h) record_after
    where
      go : (y : Res (Values r)) → whole (length s) y ≡ Err e → After y Record (in_record s) (record_marks most r s 0 (length s) d)
          → whose_by Record (behind_table (record_marks most r s 0 (length s) d)) ≡ (unread y (in_record s) λ v. Nothing)
      go (good v) g k = never (cc)
      go (fault m p) g k = k.1

-- where it is accepted there is nothing
pub about_nothing : (most : ℕ) (r : Members) (s : List ℕ) (n : ℕ) → whole_scan most r s ≡ Ok n → Nothing ≡ record_about most r s
unfolding record_about
about_nothing most r s n h = go (accept most r s) (sym (whole-accept most r s) ∙ h)
  where
    go : (y : Res (Values r)) → whole (length s) y ≡ Ok n
        → Nothing ≡ (unread y (unread (outermost forms most sequence s 0) Record λ c. about_all r Record c.content c.start) λ v. Nothing)
    go (good v) g = refl
    go (fault m p) g = never (cc)

-- an accepted record is about nothing, a refused one about something
pub accepted-about : (most : ℕ) (r : Members) (s : List ℕ) (v : Values r) → accept most r s ≡ good v → record_about most r s ≡ Nothing
unfolding record_about
accepted-about most r s v e = rw e

named : (k : ℕ) → whose_by Record k ≡ Nothing → ⊥
unfolding whose_by pick
named k = go (eqb k 0)
  where
    go : (b : Bool) → pick b Record (field (name_of (k - 1))) ≡ Nothing → ⊥
    go true h = never (cc)
    go false h = never (cc)

pub refused_about : (most : ℕ) (r : Members) (s : List ℕ) (n : Reason) (p : ℕ) → accept most r s ≡ fault n p → record_about most r s ≡ Nothing → ⊥
refused_about most r s n p e q = named (behind_table (record_marks most r s 0 (length s) d)) (about-told most r s d fresh (record { reason = n; place = p }) (whole-accept most r s ∙ rw e) ∙ q)
  where
    d : List ℕ
    d = replicate (table_size + 1) 0

    fresh : Fresh d
    fresh = let l = length-replicate {A = ℕ} (table_size + 1) 0 in (omega arith, refl)

-- bytes after the first that no record has room for change nothing
pub about-more : (most : ℕ) (r : Members) (w z : List ℕ) → most < length w → 4 ≤ length w → record_about most r (w ++ z) ≡ record_about most r w
unfolding record_about
about-more most r w z m h = rw (accept-more most r w z m h, inside-more most sequence w z 0 m h Record (λ c p. about_all r Record c p))
