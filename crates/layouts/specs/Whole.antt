-- A whole record and a whole sheet, and what is stored in a destination. Assumes nothing.
-- `most` is the largest size of a record, header included.
use Rattle.std.specs.Prelude.{ℕ, ◌≤◌, List, ◌++◌, length, drop, leb, Ok, Err}
use Rattle.terms.specs.Numbers.{done}
use Rattle.terms.specs.declared.Reason.TheVariants.{LeftOver, TooLarge, BadSheet, NoRoom}
use Rattle.terms.specs.Answer.{Res, good, fault, Got, got, bind, need, finish, Told, told_one, refusal, Answer}
use Rattle.heads.specs.Head.{forms, tlv, outermost}
use Rattle.layouts.specs.Layout.{Members, Values, Oks, encodes}
use Rattle.layouts.specs.Reading.{next, reads}
use Rattle.layouts.specs.Sheet.{sheets, fills}

-- ---- records: SEQUENCEs

abbrev pub sequence : ℕ
sequence = 0x30

abbrev pub record_of : (r : Members) → Values r → List ℕ
record_of r v = tlv sequence (encodes r v)

-- a value inside the rules, whose record is not too large
abbrev pub Allowed : ℕ → (r : Members) → Values r → Type 0
Allowed most r v = Oks r v × (length (record_of r v) ≤ most)

-- a record at the front of a window, whatever follows it
unfoldable pub record_at : ℕ → (r : Members) → List ℕ → ℕ → Res (Got (Values r))
record_at most r w b = bind (outermost forms most sequence w b) λ c. bind (reads r c.content c.start) λ v. good (got v c.rest (next c))

-- a record that is the whole input
unfoldable pub accept : ℕ → (r : Members) → List ℕ → Res (Values r)
accept most r w = bind (record_at most r w 0) λ a. finish LeftOver a

-- ---- sheets

unfoldable pub accept_sheet : (r : Members) → List ℕ → Res (Values r)
accept_sheet r w = bind (fills r w 0) λ a. finish BadSheet a

-- ---- into a destination of `room` bytes

-- "destination too short; place: bytes needed"
unfoldable pub fit : ℕ → List ℕ → Res (List ℕ)
fit room x = need (leb (length x) room) NoRoom (length x) (good x)

-- "A reader that fills a sheet gives 20 after all else."
unfoldable pub fill_sheet : ℕ → Members → List ℕ → ℕ → Res (List ℕ)
fill_sheet most r w room = bind (accept most r w) λ v. fit room (sheets r v)

-- "A writer reads the whole sheet first, then 17, then 20."
unfoldable pub write_record : ℕ → Members → List ℕ → ℕ → Res (List ℕ)
write_record most r x room = bind (accept_sheet r x) λ v. need (leb (length (record_of r v)) most) TooLarge 0 (fit room (record_of r v))

-- "On any refusal the destination keeps all its bytes; on success only the reported number of first bytes changes."
unfoldable pub stored : Res (List ℕ) → List ℕ → List ℕ
stored (good x) d = x ++ drop (length x) d
stored (fault n p) d = d

-- an outcome in the paper's terms
abbrev pub told_outcome : Answer ℕ → Told
told_outcome (Ok n) = told_one done n
told_outcome (Err e) = refusal e.reason e.place
