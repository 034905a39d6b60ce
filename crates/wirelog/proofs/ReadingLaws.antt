-- A log has one reading; and a log that a walk finds whole, with no unknown kind, is the log of a row. Assumes nothing.
use mathlib.Core.Path.{◌≡◌, refl, sym, ap, ap₂, ◌∙◌, subst}
use mathlib.Core.Bool.{not}
use mathlib.Core.List.{List, [], ◌∷◌, ◌++◌}
use Prim.Native.Nat.{ℕ, ◌+◌, ◌-◌, ◌≤◌}
use native.Mathlib.Nat.{add-zero}
use native.Mathlib.Omega.{arith}
use lib.ListN.{take, drop, drop_of_length-le, take-append-drop}
use lib.Seq.{drop-drop}
use Rattle.lent.specs.Bytes.{Bytes}
use Rattle.lent.specs.Refusal.{pick}
use Rattle.wirelog.specs.Kinds.{known}
use Rattle.wirelog.specs.Found.{Answer, found_at}
use Rattle.wirelog.specs.Walk.{past}
use Rattle.wirelog.specs.Rows.{bytes_of, Reading, OneReading, RowOf, WholeIsRow}
use Rattle.wirelog.specs.declared.walk.Walked.{Walked}
use Rattle.wirelog.proofs.RecordLaws.{record_there, record_next, unknown_kind, end_there, refused_number}
use Rattle.wirelog.proofs.WalkSteps.{Goes, walks_goes}
use Rattle.wirelog.proofs.Undone.{lawful_there, writes_back}

-- ONE READING: what stands at its start is what is found there
pub record Then (log : List ℕ) (here : Answer) (next : ℕ) (found : List Answer) : Type 0 where
  pub rest : List Answer
  pub made : found ≡ here ∷ rest
  pub there : Reading log next rest

module _ (log : List ℕ) where
  abbrev Starts : List Answer → Answer → Type 0
  Starts found (Answer.Record kind body len next) = Then log (Answer.Record kind body len next) next found
  Starts found (Answer.Unknown kind next) = Then log (Answer.Unknown kind next) next found
  Starts found Answer.End = found ≡ []
  Starts found (Answer.Refused number) = Unit {0}

  starts : {place : ℕ} {found : List Answer} → Reading log place found → Starts found (found_at log place)
  starts (Reading.ended place e) = subst (Starts []) (sym e) refl
  starts (Reading.known place kind body len next rest e r) =
      subst (Starts (Answer.Record kind body len next ∷ rest)) (sym e) (record { rest = rest; made = refl; there = r })
  starts (Reading.unknown place kind next rest e r) =
      subst (Starts (Answer.Unknown kind next ∷ rest)) (sym e) (record { rest = rest; made = refl; there = r })

  same : {place : ℕ} {found : List Answer} (found' : List Answer) → Reading log place found → Reading log place found' → found ≡ found'
  same found' (Reading.ended place e) r' = sym (subst (Starts found') e (starts r'))
  same found' (Reading.known place kind body len next rest e r) r' =
      let t = subst (Starts found') e (starts r') in
      ap (λ (l : List Answer). Answer.Record kind body len next ∷ l) (same t.rest r t.there) ∙ sym t.made
  same found' (Reading.unknown place kind next rest e r) r' =
      let t = subst (Starts found') e (starts r') in
      ap (λ (l : List Answer). Answer.Unknown kind next ∷ l) (same t.rest r t.there) ∙ sym t.made

pub one_reading : OneReading
one_reading log place found found' r r' = same log found' r r'

-- WHOLE LOGS
module _ (log : List ℕ) (r : Walked) where
  unknown_grows : {w : Walked} → Goes log r w → w.unknown ≤ r.unknown
  unfolding past
  unknown_grows (Goes.ends w e q) = omega (arith, ap (λ (v : Walked). v.unknown) q)
  unknown_grows (Goes.refused w number e q) = omega (arith, ap (λ (v : Walked). v.unknown) q)
  unknown_grows (Goes.passes w kind body len next e g) = omega (arith, unknown_grows g)
  unknown_grows (Goes.passes_unknown w kind next e g) = omega (arith, unknown_grows g)

  module _ (b : Bytes log) (z : r.number ≡ 0) where
    row_from : {w : Walked} → Goes log r w → r.unknown ≡ w.unknown → RowOf (drop w.at log)
    unfolding past bytes_of
    row_from (Goes.ends w e q) u =
        record { row = []; all = tt; bytes = sym (drop_of_length-le log {i = w.at} (omega (arith, end_there log w.at e))) }
    row_from (Goes.refused w number e q) u = absurd (refused_number log w.at number e (sym (ap (λ (v : Walked). v.number) q) ∙ z))
    row_from (Goes.passes w kind body len next e g) u =
        let t = record_there log w.at kind body len next e in
        let left = row_from g (u ∙ sym (unfold pick in rw (t.known_kind, add-zero))) in
        let found = take len (drop body log) in
        let further : w.at + (next - w.at) ≡ next = omega (arith, (record_next log w.at kind body len next e).0) in
        record {
          row = (kind, found) ∷ left.row;
          all = (lawful_there log w.at kind body len next b e, left.all);
          bytes =
              ap₂ ◌++◌ (writes_back log w.at kind body len next b e)
              (left.bytes ∙ ap (λ (i : ℕ). drop i log) (sym further) ∙ sym (drop-drop (next - w.at) w.at log))
              ∙ take-append-drop (next - w.at) (drop w.at log);
        }
    row_from (Goes.passes_unknown w kind next e g) u =
        let one : ◌≡◌ {A = ℕ} (pick (not (known kind)) 1 0) 1 = unfold pick in rw (unknown_kind log w.at kind next e) in
        absurd (omega (arith, unknown_grows g, one))

pub whole_is_row : WholeIsRow
whole_is_row log b r w z u = row_from log r b z (walks_goes log r w) u
