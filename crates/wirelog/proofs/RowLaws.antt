-- No two rows are the same log, and a walk over the log of a row counts the row. Assumes nothing.
use mathlib.Core.Path.{◌≡◌, refl, sym, ap, ap₂, ◌∙◌, subst}
use mathlib.Core.Bool.{true, not}
use mathlib.Core.List.{List, [], ◌∷◌, ◌++◌, append_assoc, append-nil}
use Prim.Native.Nat.{ℕ, ◌+◌, ◌≤◌}
use native.Mathlib.Nat.{add-zero, zero-add}
use native.Mathlib.Omega.{arith}
use lib.ListN.{length, take, drop, length-append}
use lib.Seq.{drop_at, take_at}
use Rattle.lent.specs.Refusal.{pick}
use Rattle.wirelog.specs.Kinds.{known, lawful}
use Rattle.wirelog.specs.Record.{record_of}
use Rattle.wirelog.specs.Found.{Answer, found_at}
use Rattle.wirelog.specs.Walk.{start, past}
use Rattle.wirelog.specs.Rows.{Item, AllLawful, bytes_of, of_kind, RowsApart, WalksRows}
use Rattle.wirelog.specs.declared.walk.Walked.{Walked}
use Rattle.wirelog.proofs.KindLaws.{lawful_known}
use Rattle.wirelog.proofs.FoundLaws.{at_end}
use Rattle.wirelog.proofs.Undone.{length_record, body_from, reads_back}
use Rattle.wirelog.proofs.WalkSteps.{Goes, goes_walks}
use Rattle.wirelog.proofs.Determined.{walk_determined}

-- ROWS APART. Kind and length that an answer gives, and what stands first in the log of a row:
abbrev kind_in : Answer → ℕ
kind_in (Answer.Record kind body len next) = kind
kind_in (Answer.Unknown kind next) = kind
kind_in Answer.End = 0
kind_in (Answer.Refused number) = 0

abbrev len_in : Answer → ℕ
len_in (Answer.Record kind body len next) = len
len_in (Answer.Unknown kind next) = 0
len_in Answer.End = 0
len_in (Answer.Refused number) = 0

module _ (item : Item) (row : List Item) where
  first_kind : lawful item.0 item.1 ≡ true → kind_in (found_at (bytes_of (item ∷ row)) 0) ≡ item.0
  unfolding bytes_of
  first_kind h = ap kind_in (reads_back item.0 item.1 [] (bytes_of row) h)

  first_len : lawful item.0 item.1 ≡ true → len_in (found_at (bytes_of (item ∷ row)) 0) ≡ length item.1
  unfolding bytes_of
  first_len h = ap len_in (reads_back item.0 item.1 [] (bytes_of row) h)

  first_rest : drop 4 (bytes_of (item ∷ row)) ≡ item.1 ++ bytes_of row
  unfolding bytes_of
  first_rest = body_from item.0 item.1 [] (bytes_of row)

  long : 4 ≤ length (bytes_of (item ∷ row))
  unfolding bytes_of
  long = omega (arith, length-append (record_of item.0 item.1) (bytes_of row), length_record item.0 item.1)

pub rows_apart : RowsApart
unfolding bytes_of
rows_apart [] [] a a' e = refl
rows_apart [] (item ∷ row) a a' e = absurd (omega (arith, long item row, ap length e))
rows_apart (item ∷ row) [] a a' e = absurd (omega (arith, long item row, ap length e))
rows_apart (item ∷ row) (item' ∷ row') a a' e =
    let kinds : item.0 ≡ item'.0 = sym (first_kind item row a.0) ∙ ap (λ (l : List ℕ). kind_in (found_at l 0)) e ∙ first_kind item' row' a'.0 in
    let lens : length item.1 ≡ length item'.1 = sym (first_len item row a.0) ∙ ap (λ (l : List ℕ). len_in (found_at l 0)) e ∙ first_len item' row' a'.0 in
    let rests : item.1 ++ bytes_of row ≡ item'.1 ++ bytes_of row' = sym (first_rest item row) ∙ ap (drop 4) e ∙ first_rest item' row' in
    let bodies : item.1 ≡ item'.1 =
    sym (take_at item.1 (bytes_of row) (length item.1) refl) ∙ ap (take (length item.1)) rests ∙ take_at item'.1 (bytes_of row') (length item.1) (sym lens) in
    let tails : bytes_of row ≡ bytes_of row' =
    sym (drop_at item.1 (bytes_of row) (length item.1) refl) ∙ ap (drop (length item.1)) rests ∙ drop_at item'.1 (bytes_of row') (length item.1) (sym lens) in
    ap₂ ◌∷◌ (ap₂ (λ (k : ℕ) (b : List ℕ). (k, b)) kinds bodies) (rows_apart row row' a.1 a'.1 tails)

-- THE WALK over a row that follows something: what it adds to what was counted
abbrev walked : ℕ → ℕ → ℕ → ℕ → ℕ → ℕ → ℕ → Walked
walked number at sizes frames replies notes unknown =
    record { number = number; at = at; sizes = sizes; frames = frames; replies = replies; notes = notes; unknown = unknown }

abbrev added : Walked → List Item → Walked
added w row =
    walked w.number (w.at + length (bytes_of row)) (w.sizes + of_kind 1 row) (w.frames + of_kind 2 row) (w.replies + of_kind 3 row) (w.notes + of_kind 4 row) w.unknown

same_walk : (n at s f r o u at' s' f' r' o' u' : ℕ) → at ≡ at' → s ≡ s' → f ≡ f' → r ≡ r' → o ≡ o' → u ≡ u' → walked n at s f r o u ≡ walked n at' s' f' r' o' u'
same_walk n at s f r o u at' s' f' r' o' u' ea es ef er eo eu =
    ap₂ (λ (x y : ℕ). walked n x y f r o u) ea es ∙ ap₂ (λ (x y : ℕ). walked n at' s' x y o u) ef er ∙ ap₂ (λ (x y : ℕ). walked n at' s' f' r' x y) eo eu

added_none : (w : Walked) → added w [] ≡ w
unfolding bytes_of of_kind
added_none w =
    same_walk w.number _ _ _ _ _ _ _ _ _ _ _ _ (add-zero w.at) (add-zero w.sizes) (add-zero w.frames) (add-zero w.replies) (add-zero w.notes) refl

added_one : (w : Walked) (item : Item) (row : List Item) → known item.0 ≡ true
    → added (past w item.0 (w.at + (4 + length item.1))) row ≡ added w (item ∷ row)
unfolding bytes_of of_kind past
added_one w item row k =
    let longer : w.at + (4 + length item.1) + length (bytes_of row) ≡ w.at + length (record_of item.0 item.1 ++ bytes_of row) =
    omega (arith, length-append (record_of item.0 item.1) (bytes_of row), length_record item.0 item.1) in
    let none : w.unknown + pick (not (known item.0)) 1 0 ≡ w.unknown = unfold pick in rw (k, add-zero) in
    same_walk w.number _ _ _ _ _ _ _ _ _ _ _ _ longer (omega arith) (omega arith) (omega arith) (omega arith) none

goes_row : (before : List ℕ) (row : List Item) (w : Walked) → w.at ≡ length before → AllLawful row → Goes (before ++ bytes_of row) (added w row) w
unfolding bytes_of
goes_row before [] w h a =
    Goes.ends w (at_end (before ++ []) w.at (h ∙ ap length (sym (append-nil before)))) (added_none w)
goes_row before (item ∷ row) w h a =
    let this = record_of item.0 item.1 in
    let log = before ++ (this ++ bytes_of row) in
    let next = w.at + (4 + length item.1) in
    let found : found_at log w.at ≡ Answer.Record item.0 (w.at + 4) (length item.1) next =
    subst (λ (i : ℕ). found_at log i ≡ Answer.Record item.0 (i + 4) (length item.1) (i + (4 + length item.1))) (sym h)
    (reads_back item.0 item.1 before (bytes_of row) a.0) in
    let there : (past w item.0 next).at ≡ length (before ++ this) = unfold past in omega (arith, length-append before this, length_record item.0 item.1) in
    Goes.passes w item.0 (w.at + 4) (length item.1) next found
    (subst (λ (r : Walked). Goes log r (past w item.0 next)) (added_one w item row (lawful_known item.0 item.1 a.0))
    (subst (λ (l : List ℕ). Goes l (added (past w item.0 next) row) (past w item.0 next)) (append_assoc before this (bytes_of row))
    (goes_row (before ++ this) row (past w item.0 next) there a.1)))

pub walks_rows : WalksRows
walks_rows row a r w =
    walk_determined (bytes_of row) r (added start row) w (goes_walks (bytes_of row) (added start row) (goes_row [] row start refl a))
    ∙ same_walk 0 _ _ _ _ _ _ _ _ _ _ _ _ (zero-add _) (zero-add _) (zero-add _) (zero-add _) (zero-add _) refl
