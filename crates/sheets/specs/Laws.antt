-- Filling a sheet and writing a record: what is sent is what the rules say. Assumes nothing.
use Rattle.std.specs.Prelude.{◌≡◌, ℕ, ◌+◌, ◌*◌, ◌≤◌, ◌<◌, take, T, leb, Ok, Err}
use Rattle.std.proofs.Math.Path.{refl, ap}
use Rattle.std.proofs.Common.{sym, ◌∙◌, zero-add, take_at, leb→le}
use native.Mathlib.Omega.{arith}
use mathlib.Core.List.{List, [], ◌∷◌, ◌++◌}
use Rattle.std.proofs.Math.ListN.{length, drop, length-append}
use Rattle.std.proofs.Math.Seq.{slice, take-length}
use Rattle.std.proofs.Math.Dec.{nleb→lt}
use borrow.Author.Tests.{le-leb, lt-leb}
use Rattle.terms.specs.Numbers.{largest_record}
use Rattle.terms.specs.declared.Reason.TheVariants.{LeftOver, BadSheet, TooLarge, NoRoom}
use Rattle.terms.specs.Answer.{Res, good, fault, Got, got, bind, need, answered, refusal, refusal_at, Answer}
use Rattle.terms.specs.Laws.Told.{told_refusal}
use Rattle.terms.specs.Laws.Answer.{never, same_refusal, good_inj, by_bind, bind_eq, test}
use Rattle.terms.specs.declared.Refusal.{Refusal}
use Rattle.heads.specs.Head.{Cut, forms, head}
use Rattle.heads.proofs.Laws.Head.{unspelled, outermost_back}
use Rattle.layouts.specs.Layout.{Item, node, Members, Values, encode}
use Rattle.layouts.specs.Reading.{next, read, reads}
use Rattle.layouts.specs.Sheet.{sheet, sheets, fill, fills}
use Rattle.layouts.specs.Whole.{sequence, record_of, record_at, accept, accept_sheet, fit, fill_sheet, write_record, stored, told_outcome}
use Rattle.layouts.proofs.Laws.Reading.{clear, finish_back}
use Rattle.layouts.proofs.Laws.Scan.{whole}
use Rattle.layouts.proofs.Laws.Sheet.{short}
use Rattle.layouts.proofs.Laws.Whole.{accept_back}
use Rattle.records.specs.declared.Record.{Record}
use Rattle.records.specs.declared.Record.TheVariants.{Seal, Signature}
use Rattle.records.specs.Handing.{layout_of, told_record, fill_answer, fill_after, write_answer, write_after}
use Rattle.records.specs.Laws.Record.{seal-clear, signature-clear}
use Rattle.structures.specs.declared.Structure.TheVariants as structure
use Rattle.structures.specs.Structure.{layout_of as item_of}
use Rattle.sides.specs.declared.Side.{Side}
use Rattle.sides.specs.declared.Side.TheVariants as side
use Rattle.sides.specs.Move.{Moved, move}
use Rattle.sides.proofs.Laws.Move.{move_read, move_fill}
use Rattle.stores.specs.Store.{cap, advance}
use Rattle.stores.specs.Laws.Store.{advance-small, advance-full, put_start}
use Rattle.moves.specs.Walk.{wrote_within}
use Rattle.moves.specs.Laws.{fitted_size, fitted_large, fitted_short, fitted_all}
use Rattle.sheets.specs.Send.{outcome_of, sent, ends}

-- ---- an item sent

abbrev out : Side → Side → Item → List ℕ → List ℕ
out from to i s = (move from to i s 0 (length s)).1

module _ (from to : Side) (i : Item) (s d : List ℕ) (most : ℕ) (m : most < cap) (q n : ℕ) (d' : List ℕ) (g : (q, n, d') ≡ wrote_within most (move from to i s 0 (length s)) d) where
  size_is : n ≡ advance 0 (length (out from to i s))
  size_is = fitted_size (move from to i s 0 (length s)) most d q n d' g

  size_exact : n ≤ most → n ≡ length (out from to i s)
  size_exact h =
      let a = size_is in
      test (leb (length (out from to i s)) cap)
      (λ k. let b = advance-small 0 (length (out from to i s)) (leb→le (0 + length (out from to i s)) cap (rw zero-add k)) in omega arith)
      (λ k. let b = advance-full 0 (length (out from to i s)) (omega arith) (let e = nleb→lt (length (out from to i s)) cap k in omega arith) in absurd (omega arith))

  size_over : most < n → most < length (out from to i s)
  size_over h =
      let a = size_is in
      test (leb (length (out from to i s)) cap)
      (λ k. let b = advance-small 0 (length (out from to i s)) (leb→le (0 + length (out from to i s)) cap (rw zero-add k)) in omega arith)
      (λ k. let e = nleb→lt (length (out from to i s)) cap k in omega arith)

  pub send_large : (r : Refusal) → r ≡ refusal_at TooLarge 0 → most < n → (Err r, d') ≡ ends (sent most (move from to i s 0 (length s)).1 (length d)) d
  unfolding ends sent stored need
  send_large r u h = rw (u, lt-leb (length (out from to i s)) most (size_over h), fitted_large (move from to i s 0 (length s)) most d q n d' g h)

  pub send_short : (r : Refusal) → r ≡ refusal_at NoRoom n → length d' ≡ length d → n ≤ most → length d' < n → (Err r, d') ≡ ends (sent most (move from to i s 0 (length s)).1 (length d)) d
  unfolding ends sent stored need fit
  send_short r u l h k =
      let e : n ≡ length (out from to i s) = size_exact h in
      let a : length (out from to i s) ≤ most = omega arith in
      let j : length d < n = omega arith in
      let b : length d < length (out from to i s) = omega arith in
      rw (u, le-leb (length (out from to i s)) most a, lt-leb (length (out from to i s)) (length d) b, fitted_short (move from to i s 0 (length s)) most d q n d' g h j, e) refl

  pub send_all : length d' ≡ length d → n ≤ most → n ≤ length d' → (Ok n, d') ≡ ends (sent most (move from to i s 0 (length s)).1 (length d)) d
  unfolding ends sent stored need fit
  send_all l h k =
      let e : n ≡ length (out from to i s) = size_exact h in
      let a : length (out from to i s) ≤ most = omega arith in
      let j : n ≤ length d = omega arith in
      let b : length (out from to i s) ≤ length d = omega arith in
      let w : d' ≡ (out from to i s) ++ drop (length (out from to i s)) d = fitted_all (move from to i s 0 (length s)) most d q n d' g h j ∙ put_start d (out from to i s) (omega arith) b in
      rw (le-leb (length (out from to i s)) most a, le-leb (length (out from to i s)) (length d) b, e, w) refl

-- what the answer tells, and the destination
told-ends : (z : Res (List ℕ)) → told_outcome (outcome_of z) ≡ answered (λ x. length x) z
told-ends (good x) = refl
told-ends (fault n p) = refl

module _ (y : Answer ℕ) (d' d : List ℕ) (z : Res (List ℕ)) (h : (y, d') ≡ ends z d) where
  ends-told : told_outcome y ≡ answered (λ x. length x) z
  unfolding ends
  ends-told = ap (λ (w : Answer ℕ × List ℕ). told_outcome w.0) h ∙ told-ends z

  ends-stored : d' ≡ stored z d
  unfolding ends
  ends-stored = ap (λ (w : Answer ℕ × List ℕ). w.1) h

-- ---- a record read, then sent

node_read : (r : Members) (s : List ℕ) (c : Cut) (v : Values r) → head forms sequence s 0 ≡ good c → reads r c.content c.start ≡ good v → read (node sequence r) s 0 ≡ good (got v c.rest (next c))
unfolding read bind
node_read r s c v h g = rw (h, g)

node_sheet : (r : Members) (v : Values r) → sheet (node sequence r) v ≡ sheets r v
unfolding sheet
node_sheet r v = refl

node_short : (r : Members) → T (clear (node sequence r)) → (v : Values r) → length (record_of r v) < unspelled → length (sheet (node sequence r) v) ≤ 8 * length (record_of r v) + 0
unfolding encode
node_short r k v h = short (node sequence r) k v h

both_clear : (x : Record) → T (clear (node sequence (layout_of x)))
both_clear Seal = seal-clear
both_clear Signature = signature-clear

-- the sheet of an accepted record
sheet-sent : (r : Members) (s : List ℕ) → T (clear (node sequence r)) → (v : Values r) → accept largest_record r s ≡ good v → (room : ℕ)
    → sent 4294967295 (move side.Record side.Sheet (node sequence r) s 0 (length s)).1 room ≡ fill_sheet largest_record r s room
unfolding accept record_at fill_sheet sent need
sheet-sent r s k v h room =
    by_bind _ _ _ h λ x e₁ e₂. by_bind _ _ _ e₁ λ c e₃ e₄. by_bind _ _ _ e₄ λ y e₅ e₆.
    let w : slice 0 (length s) s ≡ s = take-length s in
    let g : y ≡ v = ap (λ (a : Got (Values r)). a.value) (good_inj e₆) ∙ (finish_back LeftOver x v e₂).1 in
    let z : read (node sequence r) (slice 0 (length s) s) 0 ≡ good (got y c.rest (next c)) = rw w (node_read r s c y (outermost_back largest_record sequence s 0 c e₃).0 e₅) in
    let m : (move side.Record side.Sheet (node sequence r) s 0 (length s)).1 ≡ sheets r v =
    ap (λ (q : Moved). q.1) (move_read s side.Sheet (node sequence r) 0 (length s) (omega arith) (omega arith) (got y c.rest (next c)) z) ∙ node_sheet r y ∙ ap (sheets r) g in
    let a = accept_back largest_record r s v h in
    let q : length (record_of r v) ≤ largest_record = rw (← a.0) a.2 in
    let b : length (sheets r v) ≤ 8 * length (record_of r v) + 0 = rw (← node_sheet r v) (node_short r k v (omega arith)) in
    let f : length (sheets r v) ≤ 4294967295 = omega arith in
    rw (m, le-leb (length (sheets r v)) 4294967295 f) (sym (bind_eq _ h))

module _ (x : Record) (s d : List ℕ) (m : Members) (i : m ≡ layout_of x) (o : Answer ℕ) (t : told_outcome o ≡ told_record largest_record m s) where
  unread : (r : Refusal) → o ≡ Err r → accept largest_record (layout_of x) s ≡ fault r.reason r.place
  unread r h = told_refusal (λ v. length s) r (accept largest_record (layout_of x) s) (rw (i, h) at t)

  pub fill_refused : (r : Refusal) → o ≡ Err r → told_outcome (Err r) ≡ fill_answer (layout_of x) s d
  unfolding fill_answer fill_sheet bind
  fill_refused r h = rw (unread r h) refl

  pub fill_kept : (r : Refusal) → o ≡ Err r → d ≡ fill_after (layout_of x) s d
  unfolding fill_after fill_sheet bind stored
  fill_kept r h = rw (unread r h) refl

  module _ (l : ℕ) (h : o ≡ Ok l) (j : Item) (k : j ≡ node sequence (layout_of x)) (y : Answer ℕ) (d' : List ℕ)
      (e : (y, d') ≡ ends (sent 4294967295 (move side.Record side.Sheet j s 0 (length s)).1 (length d)) d) where
    filled : sent 4294967295 (move side.Record side.Sheet j s 0 (length s)).1 (length d) ≡ fill_sheet largest_record (layout_of x) s (length d)
    filled = go (accept largest_record (layout_of x) s) refl (rw (i, h) at t)
      where
        go : (a : Res (Values (layout_of x))) → accept largest_record (layout_of x) s ≡ a → told_outcome (Ok l) ≡ answered (λ v. length s) a
            → sent 4294967295 (move side.Record side.Sheet j s 0 (length s)).1 (length d) ≡ fill_sheet largest_record (layout_of x) s (length d)
        go (good v) a u = rw k (sheet-sent (layout_of x) s (both_clear x) v a (length d))
        go (fault n p) a u = never (cc)

    pub fill-sent : told_outcome y ≡ fill_answer (layout_of x) s d
    unfolding fill_answer
    fill-sent = ends-told y d' d _ e ∙ ap (answered (λ x. length x)) filled

    pub fill-stored : d' ≡ fill_after (layout_of x) s d
    unfolding fill_after
    fill-stored = ends-stored y d' d _ e ∙ ap (λ (z : Res (List ℕ)). stored z d) filled

-- ---- a sheet read, then sent

node_fill : (r : Members) (w : List ℕ) (a : Got (Values r)) → fills r w 0 ≡ good a → fill (node sequence r) w 0 ≡ good a
unfolding fill
node_fill r w a h = h

node_record : (r : Members) (v : Values r) → encode (node sequence r) v ≡ record_of r v
unfolding encode
node_record r v = refl

-- the record of an accepted sheet
record_sent : (r : Members) (s : List ℕ) (v : Values r) → accept_sheet r s ≡ good v → (room : ℕ)
    → sent largest_record (move side.Sheet side.Record (node sequence r) s 0 (length s)).1 room ≡ write_record largest_record r s room
unfolding accept_sheet write_record sent
record_sent r s v h room =
    by_bind _ _ _ h λ a e₁ e₂.
    let w : slice 0 (length s) s ≡ s = take-length s in
    let m : (move side.Sheet side.Record (node sequence r) s 0 (length s)).1 ≡ record_of r v =
    ap (λ (q : Moved). q.1) (move_fill s side.Record (node sequence r) 0 (length s) (omega arith) (omega arith) a (node_fill r (slice 0 (length s) s) a (rw w e₁))) ∙ node_record r a.value ∙ ap (record_of r) (finish_back BadSheet a v e₂).1 in
    rw m (sym (bind_eq _ h))

module _ (x : Record) (s d : List ℕ) (m : Members) (i : m ≡ layout_of x) (o : Answer ℕ) (t : o ≡ whole (length s) (accept_sheet m s)) where
  untaken : (r : Refusal) → o ≡ Err r → accept_sheet (layout_of x) s ≡ fault r.reason r.place
  untaken r h = go (accept_sheet (layout_of x) s) (sym h ∙ (rw i at t))
    where
      go : (a : Res (Values (layout_of x))) → Err r ≡ whole (length s) a → a ≡ fault r.reason r.place
      go (good v) e = never (cc)
      go (fault n p) e = let g : r ≡ refusal_at n p = same_refusal e in rw g refl

  pub write_refused : (r : Refusal) → o ≡ Err r → told_outcome (Err r) ≡ write_answer (layout_of x) s d
  unfolding write_answer write_record bind
  write_refused r h = rw (untaken r h) refl

  pub write_kept : (r : Refusal) → o ≡ Err r → d ≡ write_after (layout_of x) s d
  unfolding write_after write_record bind stored
  write_kept r h = rw (untaken r h) refl

  module _ (l : ℕ) (h : o ≡ Ok l) (j : Item) (k : j ≡ node sequence (layout_of x)) (y : Answer ℕ) (d' : List ℕ)
      (e : (y, d') ≡ ends (sent largest_record (move side.Sheet side.Record j s 0 (length s)).1 (length d)) d) where
    written : sent largest_record (move side.Sheet side.Record j s 0 (length s)).1 (length d) ≡ write_record largest_record (layout_of x) s (length d)
    written = go (accept_sheet (layout_of x) s) refl (sym h ∙ (rw i at t))
      where
        go : (a : Res (Values (layout_of x))) → accept_sheet (layout_of x) s ≡ a → Ok l ≡ whole (length s) a
            → sent largest_record (move side.Sheet side.Record j s 0 (length s)).1 (length d) ≡ write_record largest_record (layout_of x) s (length d)
        go (good v) a u = rw k (record_sent (layout_of x) s v a (length d))
        go (fault n p) a u = never (cc)

    pub write_sent : told_outcome y ≡ write_answer (layout_of x) s d
    unfolding write_answer
    write_sent = ends-told y d' d _ e ∙ ap (answered (λ x. length x)) written

    pub write_stored : d' ≡ write_after (layout_of x) s d
    unfolding write_after
    write_stored = ends-stored y d' d _ e ∙ ap (λ (z : Res (List ℕ)). stored z d) written

-- ---- what was sent stands in its destination

pub sent_good : (y : Res (List ℕ)) (n : ℕ) → told_outcome (Ok n) ≡ answered (λ x. length x) y → (x : List ℕ) × (y ≡ good x) × (n ≡ length x)
sent_good (good x) n h = (x, refl, cc)
sent_good (fault m q) n h = never (cc)

module _ (y : Res (List ℕ)) (d d₁ : List ℕ) (n : ℕ) (x : List ℕ) (h : y ≡ good x) (l : n ≡ length x) (k : d₁ ≡ stored y d) where
  pub front_is : take n d₁ ≡ x
  unfolding stored
  front_is = rw (k, h) (take_at x (drop (length x) d) n (sym l))

  pub front-room : n ≤ length d₁
  unfolding stored
  front-room = let e = ap length (k ∙ ap (λ (z : Res (List ℕ)). stored z d) h) ∙ length-append x (drop (length x) d) in omega arith

-- the sheet that was filled, and its room
module _ (r : Members) (s d : List ℕ) (o : Answer ℕ) (t : told_outcome o ≡ fill_answer r s d) (n : ℕ) (h : o ≡ Ok n) where
  pub sheet-there : (z : List ℕ) × (fill_sheet largest_record r s (length d) ≡ good z) × (n ≡ length z)
  unfolding fill_answer
  sheet-there = sent_good _ n (rw h at t)

  module _ (d₁ : List ℕ) (k : d₁ ≡ fill_after r s d) where
    pub filled-room : n ≤ length d₁
    unfolding fill_after
    filled-room = let (z, g, l) = sheet-there in front-room _ d d₁ n z g l k

    pub filled-cut : n ≡ length (take n d₁)
    unfolding fill_after
    filled-cut = let (z, g, l) = sheet-there in l ∙ ap length (sym (front_is _ d d₁ n z g l k))
