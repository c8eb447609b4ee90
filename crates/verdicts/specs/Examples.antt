-- Findings G for record S, findings for record D, and each verdict reached from them. The expected answers are document 01's. Assumes nothing.
use Rattle.std.specs.Prelude.{pos, ◌≡◌, ℕ, Bool, true, false, List, [], ◌∷◌, ◌++◌, set, Some, None, Option}
use Rattle.terms.specs.Answer.{Told, refuses, told_one}
use Rattle.terms.specs.Laws.Table.{Row, asks, answers, agreed}
use Rattle.contents.specs.Time.{not_later, moment_in, moment_of, written, is_real}
use Rattle.records.specs.Samples.{record_s, record_d}
use Rattle.records.specs.Examples.{evaluate, seal_s}
use Rattle.verdicts.specs.Findings.{between, within_dates, revoked_by, in_force, withdrawn_by, sound, at_stamp, revocation_times, certificate_times, stamp_times, times_of, all_real}
use Rattle.verdicts.specs.Verdict.{or_else, first_failing, the, time_of, in_period, sought, signer_listed, stamped, maker_out, judged, signature_rules, seal_rules, weigh, verdict, told_verdict}
use Rattle.verdicts.specs.declared.CertificateFacts.{CertificateFacts}
use Rattle.verdicts.specs.declared.Stamping.{Stamping}
use Rattle.verdicts.specs.declared.Stamping.TheVariants.{Unchecked, Bad, Good}
use Rattle.verdicts.specs.declared.Findings.{Findings}

-- to name this one on a line is to name all that a verdict computes with
unfoldable pub evaluate_verdict : Unit {0}
unfolding evaluate not_later moment_in moment_of written is_real between within_dates revoked_by in_force withdrawn_by sound at_stamp revocation_times certificate_times stamp_times times_of all_real or_else first_failing the time_of in_period sought signer_listed stamped maker_out judged weigh verdict
evaluate_verdict = tt

-- ---- findings

abbrev pub certificate : Bool → Bool → ℕ → ℕ → Option ℕ → CertificateFacts
certificate c u a z r = record { chain = c; usage = u; dates = record { first = a; last = z }; revocation = r }

-- both signature values, now, maker, signer, the seal's withdrawal and the stamp
abbrev pub findings : Bool → Bool → ℕ → CertificateFacts → CertificateFacts → Option ℕ → Stamping → Findings
findings a b n m s w t = record { signature = a; sealing = b; now = n; maker = m; signer = s; seal = record { withdrawn = w }; stamp = record { state = t } }

-- "Findings G: all good, original digest DD, none revoked or withdrawn, both certificates 20230101000000 to 20251231235959, now 20240701000000."
abbrev pub c : CertificateFacts
c = certificate true true 20230101000000 20251231235959 None

abbrev pub G : Findings
G = findings true true 20240701000000 c c None Unchecked

abbrev pub dd : List ℕ
dd = 0xDD ∷ []

-- G with another now, maker, signer, withdrawal or stamp
abbrev judged_at : ℕ → Findings
judged_at n = findings true true n c c None Unchecked

abbrev made_by : CertificateFacts → Findings
made_by m = findings true true 20240701000000 m c None Unchecked

abbrev signed_by : CertificateFacts → Findings
signed_by s = findings true true 20240701000000 c s None Unchecked

abbrev withdrawn : ℕ → Findings
withdrawn t = findings true true 20240701000000 c c (Some t) Unchecked

abbrev stamp_good_at : ℕ → Findings
stamp_good_at t = findings true true 20240701000000 c c None (Good t)

-- c with other dates, or revoked
abbrev dated : ℕ → ℕ → CertificateFacts
dated a z = certificate true true a z None

abbrev revoked : ℕ → CertificateFacts
revoked t = certificate true true 20230101000000 20251231235959 (Some t)

-- its first date after its last; in force from the second after G's now; its chain not good; its usage not good
abbrev backward : CertificateFacts
backward = dated 20251231235959 20230101000000

abbrev late : CertificateFacts
late = dated 20240701000001 20251231235959

abbrev unchained : CertificateFacts
unchained = certificate false true 20230101000000 20251231235959 None

abbrev bad : CertificateFacts
bad = certificate true false 20230101000000 20251231235959 None

-- the verdict on S with some findings
abbrev pub on_s : Findings → Told
on_s f = told_verdict (verdict signature_rules record_s f dd [])

-- ---- S

-- without the notice, and with it
abbrev pub plain : ℕ → Told
plain n = told_one n 0

abbrev pub notice : ℕ → Told
notice n = told_one n 1

-- S signed a year earlier and a year later, before and after its seal's period
abbrev signed_in2023 : List ℕ
signed_in2023 = set record_s 129 0x33

abbrev signed_in2025 : List ℕ
signed_in2025 = set record_s 129 0x35

-- S whose seal has a start, in 2025, after its end, in 2023
abbrev empty_period : List ℕ
empty_period = set (set record_s 64 0x35) 81 0x33

-- S with another signer certificate, AB, than the one in its list, AA
abbrev unlisted : List ℕ
unlisted = set record_s 150 0xAB

abbrev rows_s : List Row
rows_s =
    (on_s G, plain 0)
    ∷ (on_s (findings false true 20240701000000 late c None Unchecked), plain 21)
    -- kind 1: the signer's digest is not looked at
    ∷ (told_verdict (verdict signature_rules unlisted G dd (0xAA ∷ [])), plain 22)
    ∷ (on_s (findings true false 20240701000000 c c None Unchecked), plain 23)
    ∷ (on_s (made_by unchained), plain 24)
    ∷ (on_s (made_by bad), plain 24)
    ∷ (told_verdict (verdict signature_rules signed_in2023 (made_by late) dd []), notice 26)
    ∷ (told_verdict (verdict signature_rules signed_in2025 (made_by late) dd []), plain 26)
    -- "a start after its end makes an empty period, no refusal"
    ∷ (told_verdict (verdict signature_rules empty_period G dd []), plain 26)
    ∷ (on_s (withdrawn 20240630120000), plain 27)
    ∷ (on_s (withdrawn 20240630120001), plain 0)
    ∷ (on_s (signed_by unchained), plain 28)
    ∷ (on_s (findings true true 20240701000000 late bad None Unchecked), notice 28)
    ∷ (on_s (signed_by late), plain 29)
    ∷ (on_s (signed_by backward), plain 29)
    ∷ (told_verdict (verdict signature_rules record_s G (0xDE ∷ []) []), plain 31)
    -- first ≤ t ≤ last: signer and maker in force in the one second of the signing
    ∷ (on_s (findings true true 20240701000000 (dated 20240630120000 20240630120000) (dated 20240630120000 20240630120000) None Unchecked), plain 0)
    -- "With no stamp in the record 32 to 34 never arise.": a stamp bad, good before signing, good when the signer is out of force
    ∷ (on_s (findings true true 20240701000000 c c None Bad), plain 0)
    ∷ (on_s (stamp_good_at 20240630115959), plain 0)
    ∷ (on_s (stamp_good_at 20260101000000), plain 0)
    -- the notice: maker in force from now on, from a second later, revoked before signing, revoked between signing and now
    ∷ (on_s (made_by (dated 20240701000000 20251231235959)), plain 0)
    ∷ (on_s (made_by late), notice 0)
    ∷ (on_s (made_by (revoked 20240101000000)), notice 0)
    ∷ (on_s (made_by (revoked 20240630120001)), plain 0)
    ∷ []

verdicts_on_S : asks rows_s ≡ answers rows_s
unfolding evaluate_verdict
verdicts_on_S = agreed rows_s tt

-- ---- 18, "a time in the findings, or now, not a real date; place 0"

-- each of them the thirtieth of February, and all else as in G
abbrev unreal : List Findings
unreal =
    judged_at 20240230000000
    ∷ made_by (dated 20230230000000 20251231235959) ∷ made_by (dated 20230101000000 20250230000000) ∷ made_by (revoked 20250230000000)
    ∷ signed_by (dated 20230230000000 20251231235959) ∷ signed_by (dated 20230101000000 20250230000000) ∷ signed_by (revoked 20250230000000)
    ∷ withdrawn 20250230000000 ∷ stamp_good_at 20250230000000 ∷ []

abbrev refused18 : List Findings → List Row
refused18 [] = []
refused18 (f ∷ fs) = (on_s f, refuses 18 (pos 0 ∷ [])) ∷ refused18 fs

unreal-times : asks (refused18 unreal) ≡ answers (refused18 unreal)
unfolding evaluate_verdict
unreal-times = agreed (refused18 unreal) tt

-- ---- D, which has a stamp, and digests in its list

abbrev on_d : List ℕ → Findings → List ℕ → List ℕ → Told
on_d w f original signer = told_verdict (verdict signature_rules w f original signer)

-- its original digest, and the second digest of its list
abbrev f1f2f3 : List ℕ
f1f2f3 = 0xF1 ∷ 0xF2 ∷ 0xF3 ∷ []

abbrev d3 : List ℕ
d3 = 0xD3 ∷ []

-- D signed ten years later, after its seal's period
abbrev signed_in2032 : List ℕ
signed_in2032 = set record_d 183 0x33

-- in force at D's signing, and on 20220701000000
abbrev d : CertificateFacts
d = dated 20210101000000 20221231235959

-- a signer's certificate with all wrong, with its chain good, with its dates good too
abbrev wrong : CertificateFacts
wrong = certificate false true 20230101000000 20251231235959 (Some 20210101000000)

abbrev outdated : CertificateFacts
outdated = certificate true true 20230101000000 20251231235959 (Some 20210101000000)

abbrev revoked_early : CertificateFacts
revoked_early = certificate true true 20210101000000 20221231235959 (Some 20210101000000)

-- "The first that holds": with all wrong, then one after another set right. The maker is out of force now and at signing: "A notice goes with 0 and 26 to 34".
abbrev table : List Row
table =
    (on_d (0x30 ∷ 0x80 ∷ []) (findings false false 0 bad wrong (Some 20220101000000) Bad) [] [], refuses 3 (pos 0 ∷ []))
    ∷ (on_d signed_in2032 (findings false false 0 bad wrong (Some 20220101000000) Bad) [] [], refuses 18 (pos 0 ∷ []))
    ∷ (on_d signed_in2032 (findings false false 20220701000000 bad wrong (Some 20220101000000) Bad) [] [], plain 21)
    ∷ (on_d signed_in2032 (findings true false 20220701000000 bad wrong (Some 20220101000000) Bad) [] [], plain 22)
    ∷ (on_d signed_in2032 (findings true false 20220701000000 bad wrong (Some 20220101000000) Bad) [] d3, plain 23)
    ∷ (on_d signed_in2032 (findings true true 20220701000000 bad wrong (Some 20220101000000) Bad) [] d3, plain 24)
    ∷ (on_d signed_in2032 (findings true true 20220701000000 c wrong (Some 20220101000000) Bad) [] d3, notice 26)
    ∷ (on_d record_d (findings true true 20220701000000 c wrong (Some 20220101000000) Bad) [] d3, notice 27)
    ∷ (on_d record_d (findings true true 20220701000000 c wrong None Bad) [] d3, notice 28)
    ∷ (on_d record_d (findings true true 20220701000000 c outdated None Bad) [] d3, notice 29)
    ∷ (on_d record_d (findings true true 20220701000000 c revoked_early None Bad) [] d3, notice 30)
    ∷ (on_d record_d (findings true true 20220701000000 c d None Bad) [] d3, notice 31)
    ∷ (on_d record_d (findings true true 20220701000000 c d None Bad) f1f2f3 d3, notice 32)
    ∷ (on_d record_d (findings true true 20220701000000 c d None (Good 20200101000000)) f1f2f3 d3, notice 33)
    ∷ (on_d record_d (findings true true 20220701000000 c d None (Good 20230101000000)) f1f2f3 d3, notice 34)
    ∷ (on_d record_d (findings true true 20220701000000 c d None (Good 20220406060708)) f1f2f3 d3, notice 0)
    ∷ []

-- D with a revocation of its signer and a stamp
abbrev stamped_d : Option ℕ → Stamping → Told
stamped_d r t = on_d record_d (findings true true 20220701000000 d (certificate true true 20210101000000 20221231235959 r) None t) f1f2f3 d3

abbrev stamps : List Row
stamps =
    (stamped_d None Unchecked, plain 32)
    ∷ (stamped_d None (Good 20220405060707), plain 33)
    ∷ (stamped_d None (Good 20220405060708), plain 0)
    ∷ (stamped_d None (Good 20221231235959), plain 0)
    ∷ (stamped_d (Some 20220406000000) (Good 20220406000000), plain 34)
    ∷ (stamped_d (Some 20220405060708) (Good 20220406000000), plain 30)
    ∷ []

verdicts_on_D : asks (table ++ stamps) ≡ answers (table ++ stamps)
unfolding evaluate_verdict
verdicts_on_D = agreed (table ++ stamps) tt

-- ---- the seal of S by itself

abbrev on_seal : Findings → Told
on_seal f = told_verdict (verdict seal_rules seal_s f [] [])

-- "23; 24; 25, maker not in force now; 26 with now; else 0. It tests no withdrawal and gives no notice; it takes the same findings, and 18 covers all their times."
abbrev rows_seal : List Row
rows_seal =
    (told_verdict (verdict seal_rules (0x30 ∷ 0x80 ∷ []) (judged_at 0) [] []), refuses 3 (pos 0 ∷ []))
    -- with all wrong, then one after another set right
    ∷ (on_seal (findings false false 0 bad bad (Some 20240101000000) Bad), refuses 18 (pos 0 ∷ []))
    ∷ (on_seal (findings false false 20260101000000 bad bad (Some 20240101000000) Bad), plain 23)
    ∷ (on_seal (findings false true 20260101000000 bad bad (Some 20240101000000) Bad), plain 24)
    ∷ (on_seal (findings false true 20260101000000 c bad (Some 20240101000000) Bad), plain 25)
    ∷ (on_seal (findings false true 20260101000000 (dated 20260101000000 20260101000000) bad (Some 20240101000000) Bad), plain 26)
    ∷ (on_seal (findings false true 20240701000000 c bad (Some 20240101000000) Bad), plain 0)
    ∷ (on_seal (made_by unchained), plain 24)
    ∷ (on_seal (made_by late), plain 25)
    ∷ (on_seal (made_by backward), plain 25)
    ∷ (on_seal (made_by (revoked 20240101000000)), plain 25)
    -- "Both ends of a seal's period belong to it"
    ∷ (on_seal (judged_at 20231231235959), plain 26)
    ∷ (on_seal (judged_at 20240101000000), plain 0)
    ∷ (on_seal (judged_at 20241231235959), plain 0)
    ∷ (on_seal (judged_at 20250101000000), plain 26)
    -- its start after its end
    ∷ (told_verdict (verdict seal_rules (set (set seal_s 55 0x35) 72 0x33) G [] []), plain 26)
    ∷ (on_seal (signed_by (dated 20230230000000 20251231235959)), refuses 18 (pos 0 ∷ []))
    ∷ []

verdicts_on_the_seal : asks rows_seal ≡ answers rows_seal
unfolding evaluate_verdict
verdicts_on_the_seal = agreed rows_seal tt
