-- Tags and their bytes: each tag has a byte of its own, so that of a byte one thing is true. Assumes nothing.
use Rattle.std.specs.Prelude.{◌≡◌, refl, ℕ, false, List, [], ◌∷◌, eqb, Option, Some, None}
use Rattle.std.proofs.Common.{sym, ap, ◌∙◌, subst}
use Rattle.terms.specs.Answer.{pick}
use Rattle.tags.specs.Tag.{tag_byte, Tells}
use Rattle.tags.specs.declared.Tag.{Tag}
use Rattle.tags.specs.declared.Tag.TheVariants.{Boolean, Integer, BitString, OctetString, Identifier, Utf8String, PrintableString, Ia5String, Time, Sequence, Context0}

-- the first of some tags that has a byte
tag_in : List Tag → ℕ → Option Tag
tag_in [] b = None
tag_in (t ∷ ts) b = pick (eqb b (tag_byte t)) (Some t) (tag_in ts b)

tags : List Tag
tags = Boolean ∷ Integer ∷ BitString ∷ OctetString ∷ Identifier ∷ Utf8String ∷ PrintableString ∷ Ia5String ∷ Time ∷ Sequence ∷ Context0 ∷ []

tag_back : (t : Tag) → tag_in tags (tag_byte t) ≡ Some t
unfolding tag_in tags pick
tag_back t = elim t as (λ k. tag_in tags (tag_byte k) ≡ Some k) [ Boolean ↦ refl | Integer ↦ refl | BitString ↦ refl | OctetString ↦ refl | Identifier ↦ refl | Utf8String ↦ refl | PrintableString ↦ refl | Ia5String ↦ refl | Time ↦ refl | Sequence ↦ refl | Context0 ↦ refl ]

pub tag_one : (t u : Tag) → tag_byte t ≡ tag_byte u → t ≡ u
tag_one t u e = let f : Some t ≡ Some u = sym (tag_back t) ∙ ap (tag_in tags) e ∙ tag_back u in cc

pub tells_one : (b : ℕ) (x y : Option Tag) → Tells b x → Tells b y → x ≡ y
tells_one b (Some t) (Some u) h k = ap Some (tag_one t u (sym h ∙ k))
tells_one b (Some t) None h k = absurd (k t h)
tells_one b None (Some u) h k = absurd (h u k)
tells_one b None None h k = refl

-- no tag has the byte 0
pub not_zero : (t : Tag) → eqb 0 (tag_byte t) ≡ false
not_zero t = elim t as (λ k. eqb 0 (tag_byte k) ≡ false) [ Boolean ↦ refl | Integer ↦ refl | BitString ↦ refl | OctetString ↦ refl | Identifier ↦ refl | Utf8String ↦ refl | PrintableString ↦ refl | Ia5String ↦ refl | Time ↦ refl | Sequence ↦ refl | Context0 ↦ refl ]

-- a byte that is None of the tags
pub no_tag : (b : ℕ) → (b ≡ 0x01 → ⊥) → (b ≡ 0x02 → ⊥) → (b ≡ 0x03 → ⊥) → (b ≡ 0x04 → ⊥) → (b ≡ 0x06 → ⊥) → (b ≡ 0x0C → ⊥) → (b ≡ 0x13 → ⊥) → (b ≡ 0x16 → ⊥) → (b ≡ 0x18 → ⊥)
    → (b ≡ 0x30 → ⊥) → (b ≡ 0xA0 → ⊥) → (t : Tag) → b ≡ tag_byte t → ⊥
no_tag b h₁ h₂ h₃ h₄ h₅ h₆ h₇ h₈ h₉ h₁₀ h₁₁ t =
    elim t as (λ k. b ≡ tag_byte k → ⊥) [ Boolean ↦ h₁ | Integer ↦ h₂ | BitString ↦ h₃ | OctetString ↦ h₄ | Identifier ↦ h₅ | Utf8String ↦ h₆ | PrintableString ↦ h₇ | Ia5String ↦ h₈ | Time ↦ h₉ | Sequence ↦ h₁₀ | Context0 ↦ h₁₁ ]

-- a byte that is no tag is not the wanted one
pub tells-other : (b : ℕ) (r : Option Tag) (t : Tag) → Tells b r → r ≡ None → b ≡ tag_byte t → ⊥
tells-other b r t h e = subst (Tells b) e h t

-- the tag that was found is the wanted one exactly where their bytes are the same
pub found-same : (b x y : ℕ) (r : Option Tag) (f t : Tag) → Tells b r → r ≡ Some f → x ≡ tag_byte f → y ≡ tag_byte t → x ≡ y → b ≡ tag_byte t
found-same b x y r f t h e i j k = subst (Tells b) e h ∙ sym i ∙ k ∙ j

pub found-other : (b x y : ℕ) (r : Option Tag) (f t : Tag) → Tells b r → r ≡ Some f → x ≡ tag_byte f → y ≡ tag_byte t → (x ≡ y → ⊥) → b ≡ tag_byte t → ⊥
found-other b x y r f t h e i j k g = k (i ∙ sym (subst (Tells b) e h) ∙ g ∙ sym j)
