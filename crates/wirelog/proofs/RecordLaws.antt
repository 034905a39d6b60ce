-- What the reader's answer tells of the log: of a record its values, of every record that the next place is past its own and within the log. Assumes nothing.
use mathlib.Core.Path.{◌≡◌, refl, sym, subst}
use mathlib.Core.Bool.{Bool, true, false}
use mathlib.Core.List.{List}
use Prim.Native.Nat.{ℕ, ◌+◌, ◌-◌, ◌≤◌, ◌<◌}
use native.Mathlib.Omega.{arith}
use borrow.Author.Tests.{eqb-true, eqb-false}
use lib.Dec.{eqb}
use lib.ListN.{length}
use Rattle.wirelog.specs.Kinds.{known, within}
use Rattle.wirelog.specs.Record.{length_at, kind_at, body_at}
use Rattle.wirelog.specs.Found.{Answer, whole_at, found_at}
use Rattle.wirelog.proofs.FoundLaws.{whole, at_end, not_whole, not_known, not_within, is_record}

module _ (log : List ℕ) (place : ℕ) where
  pub record Recorded (kind body len next : ℕ) : Type 0 where
    pub counts : 2 ≤ length_at log place
    pub inside : place + 2 + length_at log place ≤ length log
    pub known_kind : known kind ≡ true
    pub limits : within kind (body_at log place) ≡ true
    pub kind_there : kind ≡ kind_at log place
    pub body_there : body ≡ place + 4
    pub len_there : len ≡ length_at log place - 2
    pub next_there : next ≡ place + 2 + length_at log place

  -- by the answer: a record, an unknown kind, the end, a refusal
  abbrev Tells : Answer → Type 0
  Tells (Answer.Record kind body len next) = Recorded kind body len next
  Tells (Answer.Unknown kind next) = (known kind ≡ false) × ((place < next) × (next ≤ length log))
  Tells Answer.End = place ≡ length log
  Tells (Answer.Refused number) = number ≡ 0 → ⊥

  module _ (apart : place ≡ length log → ⊥) (w : whole_at log place ≡ true) where
    by_limits : known (kind_at log place) ≡ true → (b : Bool) → within (kind_at log place) (body_at log place) ≡ b → Tells (found_at log place)
    by_limits k true e =
        let there = whole log place w in
        subst Tells (sym (is_record log place apart w k e)) (record {
          counts = there.counts;
          inside = there.inside;
          known_kind = k;
          limits = e;
          kind_there = refl;
          body_there = refl;
          len_there = refl;
          next_there = there.next;
        })
    by_limits k false e = subst Tells (sym (not_within log place apart w k e)) (λ z. omega arith)

    by_kind : (b : Bool) → known (kind_at log place) ≡ b → Tells (found_at log place)
    by_kind true k = by_limits k (within (kind_at log place) (body_at log place)) refl
    by_kind false k =
        let there = whole log place w in
        subst Tells (sym (not_known log place apart w k))
        (k, (omega (arith, there.counts, there.next), omega (arith, there.inside, there.next)))

  by_whole : (place ≡ length log → ⊥) → (b : Bool) → whole_at log place ≡ b → Tells (found_at log place)
  by_whole apart true w = by_kind apart w (known (kind_at log place)) refl
  by_whole apart false w = subst Tells (sym (not_whole log place apart w)) (λ z. omega arith)

  by_end : (b : Bool) → eqb place (length log) ≡ b → Tells (found_at log place)
  by_end true e = let end = eqb-true place (length log) e in subst Tells (sym (at_end log place end)) end
  by_end false e = by_whole (eqb-false place (length log) e) (whole_at log place) refl

  tells : Tells (found_at log place)
  tells = by_end (eqb place (length log)) refl

  pub record_there : (kind body len next : ℕ) → found_at log place ≡ Answer.Record kind body len next → Recorded kind body len next
  record_there kind body len next e = subst Tells e tells

  pub unknown_kind : (kind next : ℕ) → found_at log place ≡ Answer.Unknown kind next → known kind ≡ false
  unknown_kind kind next e = (subst Tells e tells).0

  pub end_there : found_at log place ≡ Answer.End → place ≡ length log
  end_there e = subst Tells e tells

  pub refused_number : (number : ℕ) → found_at log place ≡ Answer.Refused number → number ≡ 0 → ⊥
  refused_number number e = subst Tells e tells

  -- NEXT is past the place, and within the log
  pub record_next : (kind body len next : ℕ) → found_at log place ≡ Answer.Record kind body len next → (place < next) × (next ≤ length log)
  record_next kind body len next e =
      let r = record_there kind body len next e in
      (omega (arith, r.counts, r.next_there), omega (arith, r.inside, r.next_there))

  pub unknown_next : (kind next : ℕ) → found_at log place ≡ Answer.Unknown kind next → (place < next) × (next ≤ length log)
  unknown_next kind next e = (subst Tells e tells).1
