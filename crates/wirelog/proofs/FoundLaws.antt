-- What the reader finds, case by case. Assumes nothing.
use mathlib.Core.Path.{◌≡◌, refl, sym, ap, ap₂, ◌∙◌}
use Rattle.std.proofs.Math.Bool.{and-false}
use mathlib.Core.Bool.{Bool, true, false, not, ◌&&◌}
use mathlib.Core.List.{List, [], ◌∷◌}
use Prim.Native.Nat.{ℕ, suc, ◌+◌, ◌-◌, ◌≤◌, ◌<◌}
use native.Mathlib.Omega.{arith}
use borrow.Author.Tests.{le-ltb, le-leb, lt-leb, leb-true, eq-eqb, ne_eqb}
use lib.Dec.{ltb, leb, eqb-suc-zero}
use lib.ListN.{length, take, drop}
use Rattle.lent.specs.Refusal.{pick, first}
use Rattle.lent.proofs.Tests.{and_left, and_right}
use Rattle.wirelog.specs.Kinds.{known, within}
use Rattle.wirelog.specs.Record.{length_at, kind_at, next_at, body_at}
use Rattle.wirelog.specs.Found.{Answer, whole_at, outside_limits, find_number, stands_at, found_at, answered, FindsAt}
use Rattle.wirelog.specs.declared.record.Found.{Found}
use Rattle.lent.specs.declared.refusal.Refusal.{Refusal}
use Rattle.std.specs.declared.result.Result.{Result}

module _ (log : List ℕ) (place : ℕ) where
  -- WHOLE
  pub too_short : length log < place + 2 → whole_at log place ≡ false
  unfolding whole_at
  too_short h = rw (lt-leb (place + 2) (length log) h)

  pub too_low : place + 2 ≤ length log → length_at log place < 2 → whole_at log place ≡ false
  unfolding whole_at
  too_low h l = rw (le-leb (place + 2) (length log) h, lt-leb 2 (length_at log place) l)

  pub is_whole : 2 ≤ length_at log place → place + 2 + length_at log place ≤ length log → whole_at log place ≡ true
  unfolding whole_at next_at
  is_whole c h = rw (le-leb (place + 2) (length log) (omega arith), le-leb 2 (length_at log place) c, le-leb (place + 2 + length_at log place) (length log) h)

  -- by what is left past the length, which the code tells by differences
  pub too_long : place + 2 ≤ length log → length log - place - 2 < length_at log place → whole_at log place ≡ false
  unfolding whole_at next_at
  too_long h l = rw (lt-leb (place + 2 + length_at log place) (length log) (omega arith), and-false, and-false)

  pub all_there : place + 2 ≤ length log → 2 ≤ length_at log place → length_at log place ≤ length log - place - 2 → whole_at log place ≡ true
  all_there h c l = is_whole c (omega arith)

  -- what a whole record tells
  pub record Whole : Type 0 where
    pub counts : 2 ≤ length_at log place
    pub next : next_at log place ≡ place + 2 + length_at log place
    pub inside : place + 2 + length_at log place ≤ length log

  pub whole : whole_at log place ≡ true → Whole
  unfolding whole_at next_at
  whole e =
      let counts : Bool = leb 2 (length_at log place) in
      let inside : Bool = leb (place + 2 + length_at log place) (length log) in
      let rest : (counts && inside) ≡ true = and_right (leb (place + 2) (length log)) (counts && inside) e in
      record {
        counts = leb-true 2 (length_at log place) (and_left counts inside rest);
        next = refl;
        inside = leb-true (place + 2 + length_at log place) (length log) (and_right counts inside rest);
      }

  -- FOUND
  pub at_end : place ≡ length log → found_at log place ≡ Answer.End
  unfolding found_at pick
  at_end e = rw (eq-eqb place (length log) e)

  module _ (apart : place ≡ length log → ⊥) where
    refused : (n : ℕ) → find_number log place ≡ suc n → found_at log place ≡ Answer.Refused (suc n)
    unfolding found_at pick
    refused n e = rw (ne_eqb place (length log) apart, e, eqb-suc-zero n)

    pub not_whole : whole_at log place ≡ false → found_at log place ≡ Answer.Refused 10
    unfolding find_number first pick
    not_whole w = refused 9 (by_place (ltb (length log) place))
      where
        by_place : (b : Bool) → pick b 10 (first ((not (whole_at log place), 10) ∷ (outside_limits log place, 11) ∷ [])) ≡ 10
        by_place true = refl
        by_place false = rw w

    module _ (w : whole_at log place ≡ true) where
      inside_log : ltb (length log) place ≡ false
      inside_log = le-ltb (length log) place (omega (arith, (whole w).inside))

      pub not_known : known (kind_at log place) ≡ false → found_at log place ≡ Answer.Unknown (kind_at log place) (next_at log place)
      unfolding found_at find_number first outside_limits stands_at pick
      not_known k = rw (ne_eqb place (length log) apart, inside_log, w, k)

      pub not_within : known (kind_at log place) ≡ true → within (kind_at log place) (body_at log place) ≡ false → found_at log place ≡ Answer.Refused 11
      unfolding find_number first outside_limits pick
      not_within k b = refused 10 (rw (inside_log, w, k, b))

      pub is_record : known (kind_at log place) ≡ true → within (kind_at log place) (body_at log place) ≡ true
          → found_at log place ≡ Answer.Record (kind_at log place) (place + 4) (length_at log place - 2) (next_at log place)
      unfolding found_at find_number first outside_limits stands_at pick
      is_record k b = rw (ne_eqb place (length log) apart, inside_log, w, k, b)

  pub past_end : length log < place → found_at log place ≡ Answer.Refused 10
  past_end h = not_whole (λ e. omega arith) (too_short (omega arith))

-- the body, as a part of the log from `body` to `next`
pub body_part : (log : List ℕ) (place body next : ℕ) → body ≡ place + 4 → next ≡ place + 2 + length_at log place → take (next - body) (drop body log) ≡ body_at log place
unfolding body_at
body_part log place body next b n =
    let size : next - body ≡ length_at log place - 2 = omega arith in ap₂ (λ (x y : ℕ). take x (drop y log)) size b

-- what the code knows when it has a kind and a length, and the answer that it then gives
module _ (log : List ℕ) (place kind counted : ℕ) (apart : place ≡ length log → ⊥) (w : whole_at log place ≡ true) (k : kind ≡ kind_at log place)
    (l : counted ≡ length_at log place) where
  same_next : place + 2 + counted ≡ next_at log place
  unfolding next_at
  same_next = ap (λ (x : ℕ). place + 2 + x) l

  same_body : take (place + 2 + counted - (place + 4)) (drop (place + 4) log) ≡ body_at log place
  same_body = body_part log place (place + 4) (place + 2 + counted) refl (ap (λ (x : ℕ). place + 2 + x) l)

  pub gives_unknown : known kind ≡ false → FindsAt log place (Answer.Unknown kind (place + 2 + counted))
  gives_unknown e = record { found = ap₂ Answer.Unknown k same_next ∙ sym (not_known log place apart w (ap known (sym k) ∙ e)) }

  pub gives_limits : known kind ≡ true → within kind (take (place + 2 + counted - (place + 4)) (drop (place + 4) log)) ≡ false
      → FindsAt log place (Answer.Refused 11)
  gives_limits e b = record { found = sym (not_within log place apart w (ap known (sym k) ∙ e) (ap₂ within (sym k) (sym same_body) ∙ b)) }

  pub gives_record : known kind ≡ true → within kind (take (place + 2 + counted - (place + 4)) (drop (place + 4) log)) ≡ true
      → FindsAt log place (Answer.Record kind (place + 4) (counted - 2) (place + 2 + counted))
  gives_record e b =
      let size : counted - 2 ≡ length_at log place - 2 = ap (λ (x : ℕ). x - 2) l in
      record {
        found =
            ap (λ (x : ℕ). Answer.Record x (place + 4) (counted - 2) (place + 2 + counted)) k
            ∙ ap₂ (λ (x y : ℕ). Answer.Record (kind_at log place) (place + 4) x y) size same_next
            ∙ sym (is_record log place apart w (ap known (sym k) ∙ e) (ap₂ within (sym k) (sym same_body) ∙ b));
      }

-- what is found, by the case of the code's result
pub found_is : {log : List ℕ} {place : ℕ} {r r' : Result Found Refusal} → FindsAt log place (answered r) → r ≡ r' → found_at log place ≡ answered r'
found_is f e = sym f.found ∙ ap answered e
