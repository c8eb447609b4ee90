-- Reading by positions is reading the window: `scan` agrees with `read`, for every layout. Assumes nothing.
use Rattle.std.specs.Prelude.{◌≡◌, ◌⊎◌, Bool, ◌&&◌, ◌||◌, take, drop, ltb, Ok, Err}
use Rattle.std.proofs.Math.Path.{refl}
use Rattle.std.proofs.Common.{sym, ap, ◌∙◌, inl, inr, add-zero, length-append, length-take, drop-drop, take-add, drop_at, take_at, take-take, lt-ltb, le-ltb}
use Prim.Native.Nat.{ℕ, suc, zero, ◌+◌, ◌-◌, ◌≤◌, ◌<◌}
use native.Mathlib.Omega.{arith}
use Rattle.std.proofs.Math.Bool.{true, false}
use mathlib.Core.List.{List, [], ◌∷◌, ◌++◌, append_assoc}
use Rattle.std.proofs.Math.ListN.{length, get_or}
use Rattle.std.proofs.Math.Seq.{take-length, slice, slice_empty, slice-cons, length-slice, length-take-le}
use Rattle.std.proofs.Math.Dec.{eqb, ltb→lt, nltb→le}
use Rattle.terms.specs.declared.Reason.{Reason}
use Rattle.terms.specs.declared.Reason.TheVariants.{LeftOver, BadBits, NoItem, TooManyItems}
use Rattle.terms.specs.Answer.{Res, good, fault, Got, got, pick, bind, need, enough, same, finish, Answer, refused}
use Rattle.terms.specs.Laws.Answer.{good_inj, test, is_true, is_false, by_bind, need_eq}
use Rattle.heads.specs.Head.{forms, Cut, cut_off, head, outermost, tlv, octets}
use Rattle.heads.specs.Scan.{seen, past_of, head_at, outermost_at, begins_at, close_at}
use Rattle.heads.proofs.Laws.Head.{head_back, outermost_back}
use Rattle.heads.specs.declared.Span.{Span}
use Rattle.contents.specs.Content.{Check, fine, wrong, judge}
use Rattle.contents.specs.Leaves.{Leaf, rule_of, boolean, only}
use Rattle.contents.specs.Scan.{checked, checked_at, behind_at, content_at}
use Rattle.contents.proofs.Laws.Leaves.{by_judge}
use Rattle.layouts.specs.Layout.{Item, leaf, node, list, wrap, Members, end, ◌▸◌, Member, known, one, maybe, flag, choose, tag_of, Value, Values, Part, encode, encode_part}
use Rattle.layouts.specs.Whole.{sequence, record_at, accept}
use Rattle.layouts.specs.Reading.{next, behind, read_leaf, begins, many, read_option, read_flag, read_either, read, reads, read_part}
use Rattle.layouts.specs.Scan.{then_seen, then_step, judged_at, leaf_at, scan_many, scan, scans, scan_part, record_scan, whole_scan}
use Rattle.layouts.proofs.Laws.Reading.{behind_back, backward, backward_part}

-- ---- windows of a slice

-- a window that is two lists in a row: the second is the window from there on
pub rest_slice : (p e : ℕ) (s a r : List ℕ) → slice p e s ≡ a ++ r → r ≡ slice (p + length a) e s
rest_slice p e s a r h = sym (drop_at a r (length a) refl) ∙ ap (drop (length a)) (sym h) ∙ drop-drop (length a) p (take e s)

drop-take : (q n : ℕ) (l : List ℕ) → q ≤ length l → take n (drop q l) ≡ drop q (take (q + n) l)
drop-take q n l h = sym (ap (drop q) (take-add q n l) ∙ drop_at (take q l) (take n (drop q l)) q (length-take-le q l h))

-- and the first is the window up to there
pub front-slice : (p e : ℕ) (s a r : List ℕ) → slice p e s ≡ a ++ r → p + length a ≤ length (take e s) → a ≡ slice p (p + length a) s
front-slice p e s a r q h =
    let m = length-take e s in
    sym (take_at a r (length a) refl) ∙ ap (take (length a)) (sym q) ∙ drop-take p (length a) (take e s) (omega arith)
    ∙ ap (drop p) (take-take (p + length a) e s (omega arith))

-- what was read at the front of a window leaves the window from there on
abbrev pub Onward : List ℕ → ℕ → ℕ → List ℕ → ℕ → Type 0
Onward s p e r n = (r ≡ slice n e s) × (p ≤ n) × (n ≤ e)

pub onward : (p e : ℕ) (s a r : List ℕ) (n : ℕ) → p ≤ e → e ≤ length s → slice p e s ≡ a ++ r → n ≡ p + length a → Onward s p e r n
onward p e s a r n h k q m =
    let l : length a + length r ≡ e - p = sym (length-append a r) ∙ ap length (sym q) ∙ length-slice p e s k in
    (rest_slice p e s a r q ∙ ap (λ (z : ℕ). slice z e s) (sym m), omega arith, omega arith)

-- ---- a reading as a caller sees it

abbrev pub out : {A : Type 0} → (A → ℕ) → Res A → Answer ℕ
out f (good a) = Ok (f a)
out f (fault n q) = refused n q

abbrev pub step : {A : Type 0} → Res (Got A) → Answer ℕ
step r = out (λ x. x.after) r

abbrev pub whole : {A : Type 0} → ℕ → Res A → Answer ℕ
whole e r = out (λ x. e) r

-- where what follows an item starts
pub passed : (x : Answer Span) → past_of x ≡ then_seen x (λ a z. Ok z)
passed (Ok i) = refl
passed (Err e) = refl

pub seen-bind : {A : Type 0} (g : A → ℕ) (h : Res Cut) (k : ℕ → ℕ → Answer ℕ) (K : Cut → Res A) → ((c : Cut) → h ≡ good c → k c.start (next c) ≡ out g (K c)) → then_seen (seen h) k ≡ out g (bind h K)
unfolding bind
seen-bind g (good c) k K f = f c refl
seen-bind g (fault n q) k K f = refl

pub out-bind : {A B : Type 0} (f : A → ℕ) (g : B → ℕ) (r : Res A) (k : ℕ → Answer ℕ) (K : A → Res B) → ((a : A) → r ≡ good a → k (f a) ≡ out g (K a)) → then_step (out f r) k ≡ out g (bind r K)
unfolding bind
out-bind f g (good a) k K h = h a refl
out-bind f g (fault n q) k K h = refl

pub out-map : {A B : Type 0} (f : A → ℕ) (g : B → ℕ) (r : Res A) (k : A → B) → ((a : A) → f a ≡ g (k a)) → out f r ≡ out g (bind r λ a. good (k a))
unfolding bind
out-map f g (good a) k h = ap Ok (h a)
out-map f g (fault n q) k h = refl

judge-bind : (h : Res Cut) (k : ℕ → ℕ → Answer Span) (K : Cut → Res Cut) → ((c : Cut) → h ≡ good c → k c.start (next c) ≡ seen (K c)) → then_seen (seen h) k ≡ seen (bind h K)
unfolding bind
judge-bind (good c) k K f = f c refl
judge-bind (fault n q) k K f = refl

seen-judge : (k : Check) (p : ℕ) (c : Cut) → judged_at (checked k p c.start) c.start (next c) ≡ seen (judge k p c.start (good c))
unfolding judge judged_at
seen-judge fine p c = refl
seen-judge (wrong n x) p c = refl

pub out-need : {A : Type 0} (g : A → ℕ) (t : Bool) (n : Reason) (p : ℕ) (x : Answer ℕ) (y : Res A) → x ≡ out g y → pick t x (refused n p) ≡ out g (need t n p y)
unfolding need pick
out-need g true n p x y h = h
out-need g false n p x y h = refl

pub out-pick : {A : Type 0} (g : A → ℕ) (t : Bool) (x x' : Answer ℕ) (y y' : Res A) → x ≡ out g y → x' ≡ out g y' → pick t x x' ≡ out g (pick t y y')
unfolding pick
out-pick g true x x' y y' h h' = h
out-pick g false x x' y y' h h' = h'

-- one of two, after the content that decides
pub choose_read : {A B : Type 0} (f : List ℕ → ℕ → Res (Got A)) (g : List ℕ → ℕ → Res (Got B)) (t : Bool) (k w : List ℕ) (b : ℕ)
    → pick t (step (f w b)) (step (g w b)) ≡ step {A = List ℕ × (A ⊎ B)} (bind (read_either t f g w b) λ a. good (got (k, a.value) a.rest a.after))
unfolding pick read_either bind
choose_read {A} {B} f g true k w b = go (f w b)
  where
    go : (r : Res (Got A)) → step r ≡ step {A = List ℕ × (A ⊎ B)} (bind {A = Got (A ⊎ B)} (bind r λ a. good (got (inl a.value) a.rest a.after)) λ a. good (got (k, a.value) a.rest a.after))
    go (good a) = refl
    go (fault n p) = refl
choose_read {A} {B} f g false k w b = go (g w b)
  where
    go : (r : Res (Got B)) → step r ≡ step {A = List ℕ × (A ⊎ B)} (bind {A = Got (A ⊎ B)} (bind r λ a. good (got (inr a.value) a.rest a.after)) λ a. good (got (k, a.value) a.rest a.after))
    go (good a) = refl
    go (fault n p) = refl

-- ---- every layout

module _ (s : List ℕ) where
  -- by cases on a window: it is empty, or it has a first byte
  pub by_window : (p e : ℕ) (f : Bool → List ℕ → Type 0) → p ≤ e → e ≤ length s → f false [] → f true (get_or s p 0 ∷ slice (suc p) e s) → f (ltb p e) (slice p e s)
  by_window p e f pe es empty full =
      test (ltb p e)
      (λ h. let h' : p < e = ltb→lt p e h in rw (lt-ltb p e h', slice-cons p e s 0 h' es) full)
      (λ h. let h' : e ≤ p = nltb→le p e h in let q : p ≡ e = omega arith in let n : slice p e s ≡ [] = rw q (slice_empty e s) in rw (le-ltb p e h', n) empty)

  -- a head's parts are windows of the slice
  abbrev Parts : ℕ → ℕ → Cut → Type 0
  Parts p e c = (c.content ≡ slice c.start (next c) s) × (c.rest ≡ slice (next c) e s) × (p ≤ c.start) × (next c ≤ e)

  pub head-parts : (t p e : ℕ) → p ≤ e → e ≤ length s → (c : Cut) → head forms t (slice p e s) p ≡ good c → Parts p e c
  unfolding tlv
  head-parts t p e pe es c h =
      let b = head_back t (slice p e s) p c h in
      let a : List ℕ = t ∷ octets forms (length c.content) in
      let o = onward p e s a (c.content ++ c.rest) c.start pe es (b.0 ∙ append_assoc a c.content c.rest) (b.1 ∙ omega arith) in
      let o' = onward c.start e s c.content c.rest (next c) o.2 es (sym o.0) refl in
      let l : length (take e s) ≡ e = length-take-le e s es in
      (front-slice c.start e s c.content c.rest (sym o.0) (omega (arith, o'.2)), o'.0, o.1, o'.2)

  -- a primitive item's value too, behind what its content begins with
  behind-parts : (f : List ℕ) (p e b : ℕ) (c v : Cut) → behind f b c ≡ good v → Parts p e c → Parts p e v × (next v ≡ next c)
  behind-parts f p e b c v h (q, r, l, m) =
      let (x, y, z) = behind_back f b c v h in
      let n : next v ≡ next c = omega (arith, ap length x ∙ length-append f v.content) in
      let d : v.content ≡ slice v.start (next c) s =
      sym (drop_at f v.content (length f) refl) ∙ ap (drop (length f)) (sym x ∙ q) ∙ drop-drop (length f) c.start (take (next c) s) ∙ ap (λ (k : ℕ). slice k (next c) s) (sym z) in
      (rw n (d, y ∙ r, omega arith, m), n)

  pub leaf_parts : (l : Leaf) (p e : ℕ) → p ≤ e → e ≤ length s → (c : Cut) → read_leaf l (slice p e s) p ≡ good c → Parts p e c
  unfolding read_leaf
  leaf_parts l p e pe es x q =
      by_bind _ _ _ q λ c e₁ e₂. by_bind _ _ _ e₂ λ v e₃ e₄. by_judge _ _ _ _ _ e₄ λ ok e₅.
      rw (← good_inj e₅) (behind-parts l.front p e p c v e₃ (head-parts l.tag p e pe es c e₁)).0

  -- what code answers of a content, whatever it begins with
  content_by : (f : List ℕ) (rule : List ℕ → Check) (p a z : ℕ) → content_at f rule s p a z ≡ behind_at f rule s p a z
  unfolding behind_at pick same
  content_by [] rule p a z = rw (add-zero a)
  content_by (b ∷ f) rule p a z = refl

  content_agree : (f : List ℕ) (rule : List ℕ → Check) (p e : ℕ) (c : Cut) → Parts p e c
      → judged_at (content_at f rule s p c.start (next c)) (c.start + length f) (next c) ≡ seen (bind (behind f p c) λ v. judge (rule v.content) p v.start (good v))
  unfolding judged_at behind_at checked_at behind pick bind need
  content_agree f rule p e c b =
      let v : Cut = cut_off (drop (length f) c.content) c.rest (c.start + length f) in
      rw (content_by f rule p c.start (next c), ← b.0)
      (test (same (take (length f) c.content) f)
      (λ t. let (q, m) = behind-parts f p e p c v (need_eq (same (take (length f) c.content) f) BadBits p (good v) t) b in
      let d : v.content ≡ slice v.start (next c) s = rw m at q.0 in
      rw (is_true (same (take (length f) c.content) f) t, ← d) (rw m at (seen-judge (rule v.content) p v)))
      (λ t. rw (is_false (same (take (length f) c.content) f) t)))

  pub leaf_agree : (l : Leaf) (p e : ℕ) → p ≤ e → e ≤ length s → leaf_at l s p e ≡ seen (read_leaf l (slice p e s) p)
  unfolding leaf_at read_leaf head_at
  leaf_agree l p e pe es = judge-bind _ _ _ λ c h. content_agree l.front (rule_of l.holds) p e c (head-parts l.tag p e pe es c h)

  pub begins-agree : (t p e : ℕ) → p ≤ e → e ≤ length s → begins_at t s p e ≡ begins t (slice p e s)
  unfolding begins_at begins
  begins-agree t p e pe es = by_window p e (λ u w. u && eqb (get_or s p 0) t ≡ begins t w) pe es refl refl

  pub close_agree : {A : Type 0} (a : Got A) (e : ℕ) → a.rest ≡ slice a.after e s → a.after ≤ e → e ≤ length s → close_at a.after e ≡ whole e (finish LeftOver a)
  unfolding close_at finish same need pick
  close_agree a e q ae es = rw q (by_window a.after e (λ u w. pick u (refused LeftOver a.after) (Ok e) ≡ whole e (finish LeftOver (got a.value w a.after))) ae es refl refl)

  pub enough-agree : (k : Bool) (p e : ℕ) → p ≤ e → e ≤ length s → k || ltb p e ≡ enough k (slice p e s)
  unfolding enough
  enough-agree true p e pe es = refl
  enough-agree false p e pe es = by_window p e (λ u w. u ≡ enough false w) pe es refl refl

  many-agree : {A : Type 0} (f : ℕ → Answer ℕ) (g : List ℕ → ℕ → Res (Got A)) (e : ℕ) → e ≤ length s → ((p : ℕ) → p ≤ e → f p ≡ step (g (slice p e s) p))
      → ((p : ℕ) → p ≤ e → (x : Got A) → g (slice p e s) p ≡ good x → Onward s p e x.rest x.after)
      → (n p : ℕ) → p ≤ e → scan_many f n p e ≡ whole e (many g n (slice p e s) p)
  unfolding scan_many many pick
  many-agree f g e es like on zero p pe = by_window p e (λ u w. pick u (refused TooManyItems p) (Ok e) ≡ whole e (many g zero w p)) pe es refl refl
  many-agree f g e es like on (suc n) p pe =
      test (ltb p e)
      (λ h. let h' : p < e = ltb→lt p e h in
      let w : slice p e s ≡ get_or s p 0 ∷ slice (suc p) e s = slice-cons p e s 0 h' es in
      rw (lt-ltb p e h', like p pe, w)
      (out-bind (λ x. x.after) (λ x. e) _ _ _ λ a q.
      let o = on p pe a (rw w q) in
      rw (many-agree f g e es like on n a.after o.2, ← o.0) (out-map (λ x. e) (λ x. e) _ _ λ a. refl)))
      (λ h. let h' : e ≤ p = nltb→le p e h in let q : p ≡ e = omega arith in let m : slice p e s ≡ [] = rw q (slice_empty e s) in rw (le-ltb p e h', m))

  -- what a reading leaves
  pub item_on : (i : Item) (p e : ℕ) → p ≤ e → e ≤ length s → (x : Got (Value i)) → read i (slice p e s) p ≡ good x → Onward s p e x.rest x.after
  item_on i p e pe es x h = let w = backward i (slice p e s) p x h in onward p e s (encode i x.value) x.rest x.after pe es w.0 w.2

  pub part_on : (m : Member) (p e : ℕ) → p ≤ e → e ≤ length s → (x : Got (Part m)) → read_part m (slice p e s) p ≡ good x → Onward s p e x.rest x.after
  part_on m p e pe es x h = let w = backward_part m (slice p e s) p x h in onward p e s (encode_part m x.value) x.rest x.after pe es w.0 w.2

  mutual
    unfolding scan read head_at read_option read_flag read_either

    pub scan-read : (i : Item) (p e : ℕ) → p ≤ e → e ≤ length s → scan i s p e ≡ step (read i (slice p e s) p)
    scan-read (leaf l) p e pe es =
        rw (leaf_agree l p e pe es) (seen-bind (λ x. x.after) _ _ _ λ c h. refl)
    scan-read (node t r) p e pe es =
        seen-bind (λ x. x.after) _ _ _ λ c h.
        let b = head-parts t p e pe es c h in
        let d : c.start ≤ next c = omega arith in
        let d' : next c ≤ length s = omega arith in
        rw (scans-read r c.start (next c) d d', ← b.0) (out-map (λ x. next c) (λ x. x.after) _ _ λ v. refl)
    scan-read (list t k n f i) p e pe es =
        seen-bind (λ x. x.after) _ _ _ λ c h.
        let b = head-parts t p e pe es c h in
        let d : c.start ≤ next c = omega arith in
        let d' : next c ≤ length s = omega arith in
        let m = many-agree (λ q. scan i s q (next c)) (λ x q. read i x q) (next c) d' (λ q g. scan-read i q (next c) g d') (λ q g. item_on i q (next c) g d') n c.start d in
        rw (enough-agree k c.start (next c) d d', m, ← b.0)
        (out-need (λ x. x.after) (enough k c.content) NoItem p _ _ (out-map (λ x. next c) (λ x. x.after) _ _ λ v. refl))
    scan-read (wrap t i) p e pe es =
        seen-bind (λ x. x.after) _ _ _ λ c h.
        let b = head-parts t p e pe es c h in
        let d : c.start ≤ next c = omega arith in
        let d' : next c ≤ length s = omega arith in
        rw (scan-read i c.start (next c) d d')
        (rw (← b.0) (out-bind (λ x. x.after) (λ x. x.after) _ _ _ λ a g.
        let o = item_on i c.start (next c) d d' a (rw (← b.0) g) in
        rw (close_agree a (next c) o.0 o.2 d') (out-map (λ x. next c) (λ x. x.after) _ _ λ v. refl)))

    pub scans-read : (r : Members) (p e : ℕ) → p ≤ e → e ≤ length s → scans r s p e ≡ whole e (reads r (slice p e s) p)
    scans-read end p e pe es = close_agree (got tt (slice p e s) p) e refl pe es
    scans-read (m ▸ r) p e pe es =
        rw (part-read m p e pe es)
        (out-bind (λ x. x.after) (λ x. e) _ _ _ λ a h.
        let o = part_on m p e pe es a h in
        rw (scans-read r a.after e o.2 es, ← o.0) (out-map (λ x. e) (λ x. e) _ _ λ a. refl))

    pub part-read : (m : Member) (p e : ℕ) → p ≤ e → e ≤ length s → scan_part m s p e ≡ step (read_part m (slice p e s) p)
    part-read (known k) p e pe es =
        rw (leaf_agree (only k) p e pe es) (seen-bind (λ x. x.after) _ _ _ λ c h. refl)
    part-read (one f i) p e pe es = scan-read i p e pe es
    part-read (maybe f i) p e pe es =
        rw (begins-agree (tag_of i) p e pe es, scan-read i p e pe es)
        (out-pick (λ x. x.after) (begins (tag_of i) (slice p e s)) _ _ _ _ (out-map (λ x. x.after) (λ x. x.after) _ _ λ a. refl) refl)
    part-read (flag f) p e pe es =
        rw (begins-agree boolean.tag p e pe es, leaf_agree boolean p e pe es)
        (out-pick (λ x. x.after) (begins boolean.tag (slice p e s)) _ _ _ _ (seen-bind (λ x. x.after) _ _ _ λ c h. refl) refl)
    part-read (choose f l t g i j) p e pe es =
        rw (leaf_agree l p e pe es)
        (seen-bind (λ x. x.after) _ _ _ λ c h.
        let b = leaf_parts l p e pe es c h in
        rw (← b.0, scan-read i (next c) e b.3 es, scan-read j (next c) e b.3 es, ← b.1)
        (choose_read (λ x q. read i x q) (λ x q. read j x q) (t c.content) c.content c.rest (next c)))

  -- ---- records

  module _ (most : ℕ) (r : Members) (p e : ℕ) (pe : p ≤ e) (es : e ≤ length s) where
    outermost-parts : (c : Cut) → outermost forms most sequence (slice p e s) p ≡ good c → Parts p e c
    outermost-parts c h = head-parts sequence p e pe es c (outermost_back most sequence (slice p e s) p c h).0

    pub record_read : record_scan most r s p e ≡ step (record_at most r (slice p e s) p)
    unfolding record_scan record_at outermost_at
    record_read =
        seen-bind (λ x. x.after) _ _ _ λ c h.
        let b = outermost-parts c h in
        let d : c.start ≤ next c = omega arith in
        let d' : next c ≤ length s = omega arith in
        rw (scans-read r c.start (next c) d d', ← b.0) (out-map (λ x. next c) (λ x. x.after) _ _ λ v. refl)

    record_on : (x : Got (Values r)) → record_at most r (slice p e s) p ≡ good x → (x.rest ≡ slice x.after e s) × (x.after ≤ e)
    unfolding record_at
    record_on x h =
        by_bind _ _ _ h λ c e₁ e₂.
        by_bind _ _ _ e₂ λ v e₃ e₄.
        let b = outermost-parts c e₁ in
        rw (← good_inj e₄) (b.1, b.3)

-- a whole slice
pub whole-accept : (most : ℕ) (r : Members) (s : List ℕ) → whole_scan most r s ≡ whole (length s) (accept most r s)
unfolding whole_scan accept
whole-accept most r s =
    let w : slice 0 (length s) s ≡ s = take-length s in
    rw (record_read s most r 0 (length s) (omega arith) (omega arith), w)
    (out-bind (λ x. x.after) (λ x. length s) _ _ _ λ a g.
    let o = record_on s most r 0 (length s) (omega arith) (omega arith) a (rw w g) in
    close_agree s a (length s) o.0 o.1 (omega arith))
