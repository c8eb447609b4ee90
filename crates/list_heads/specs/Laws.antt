-- The head of a list by its cases. Assumes nothing.
use Rattle.std.specs.Prelude.{◌≡◌, ℕ, Bool, true, false, ◌||◌, List, ltb, Ok, Err}
use Rattle.terms.specs.declared.Reason.TheVariants.{NoItem}
use Rattle.terms.specs.Answer.{pick, Answer, refused}
use Rattle.terms.specs.declared.Refusal.{Refusal}
use Rattle.heads.specs.Scan.{head_at}
use Rattle.heads.specs.declared.Span.{Span}
use Rattle.tags.specs.declared.Tag.{Tag}
use Rattle.tags.specs.Tag.{tag_byte}
use Rattle.list_heads.specs.Head.{list_head_at}

module _ (t : Tag) (o : Bool) (s : List ℕ) (p e : ℕ) (h : Answer Span) (j : h ≡ head_at (tag_byte t) s p e) where
  pub head_refused : (r : Refusal) → h ≡ Err r → Err r ≡ list_head_at (tag_byte t) o s p e
  unfolding list_head_at
  head_refused r b = rw (← j, b)

  module _ (i : Span) (b : h ≡ Ok i) (v : Bool) (w : v ≡ o || ltb i.start i.end) where
    pub head_none : v ≡ false → refused NoItem p ≡ list_head_at (tag_byte t) o s p e
    unfolding list_head_at pick
    head_none q = rw (← j, b, ← w, q)

    pub head_some : v ≡ true → Ok i ≡ list_head_at (tag_byte t) o s p e
    unfolding list_head_at pick
    head_some q = rw (← j, b, ← w, q)
