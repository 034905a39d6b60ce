-- Writing and reading undo each other, in the middle of any log. Assumes nothing.
use mathlib.Core.Path.{◌≡◌, refl, sym, ap, ap₂, ◌∙◌}
use mathlib.Core.Bool.{true, not}
use mathlib.Core.List.{List, ◌++◌, append_assoc}
use Prim.Native.Nat.{ℕ, ◌+◌, ◌-◌, ◌≤◌}
use native.Mathlib.Omega.{arith}
use borrow.Author.Tests.{not-false, eq-eqb}
use lib.Dec.{eqb}
use lib.ListN.{length, take, drop, length-append, length-drop}
use lib.Seq.{take_at, drop_at, take-add, drop-drop, length-take-le}
use Rattle.lent.specs.Bytes.{Bytes}
use Rattle.lent.specs.LowFirst.{low_first, low_first_at}
use Rattle.lent.specs.declared.Written.{Written}
use Rattle.lent.proofs.First.{none_first}
use Rattle.lent.proofs.LowFirst.{low_first_read, low_first_written}
use Rattle.lent.proofs.Over.{take_over}
use Rattle.lent.proofs.Pick.{pick_true}
use Rattle.wirelog.specs.Kinds.{known, within, lawful}
use Rattle.wirelog.specs.Record.{record_of, length_at, kind_at, next_at, body_at}
use Rattle.wirelog.specs.Put.{put_number, Puts}
use Rattle.wirelog.specs.Found.{Answer, found_at}
use Rattle.wirelog.proofs.KindLaws.{lawful_known, lawful_within}
use Rattle.wirelog.proofs.PutLaws.{none}
use Rattle.wirelog.proofs.FoundLaws.{is_whole, is_record}
use Rattle.wirelog.proofs.RecordLaws.{Recorded, record_there}

pub length_record : (kind : ℕ) (body : List ℕ) → length (record_of kind body) ≡ 4 + length body
unfolding record_of low_first
length_record kind body = omega arith

-- WRITTEN, THEN READ: a lawful record stands between two pieces of a log
module _ (kind : ℕ) (body before after : List ℕ) where
  abbrev log : List ℕ
  log = before ++ (record_of kind body ++ after)

  abbrev place : ℕ
  place = length before

  length_there : length_at log place ≡ 2 + length body
  unfolding length_at record_of low_first
  length_there = low_first_read before (low_first kind ++ (body ++ after)) (2 + length body) place refl

  kind_there : kind_at log place ≡ kind
  unfolding kind_at record_of low_first
  kind_there =
      let two : List ℕ = low_first (2 + length body) in
      ap (λ (l : List ℕ). low_first_at l (place + 2)) (sym (append_assoc before two (low_first kind ++ (body ++ after))))
      ∙ low_first_read (before ++ two) (body ++ after) kind (place + 2) (length-append before two)

  pub body_from : drop (place + 4) log ≡ body ++ after
  unfolding record_of low_first
  body_from =
      let four : List ℕ = low_first (2 + length body) ++ low_first kind in
      ap (drop (place + 4)) (sym (append_assoc before four (body ++ after))) ∙ drop_at (before ++ four) (body ++ after) (place + 4) (length-append before four)

  body_there : body_at log place ≡ body
  unfolding body_at
  body_there =
      let size : length_at log place - 2 ≡ length body = omega (arith, length_there) in
      ap₂ (λ (n : ℕ) (l : List ℕ). take n l) size body_from ∙ take_at body after (length body) refl

  inside : place + 4 + length body ≤ length log
  inside = omega (arith, length-append before (record_of kind body ++ after), length-append (record_of kind body) after, length_record kind body)

  pub reads_back : lawful kind body ≡ true → found_at log place ≡ Answer.Record kind (place + 4) (length body) (place + (4 + length body))
  unfolding next_at
  reads_back h =
      let l = length_there in
      let size : length_at log place - 2 ≡ length body = omega arith in
      let next : place + 2 + length_at log place ≡ place + (4 + length body) = omega arith in
      is_record log place (λ e. omega (arith, inside)) (is_whole log place (omega arith) (omega (arith, inside)))
      (ap known kind_there ∙ lawful_known kind body h)
      (ap₂ within kind_there body_there ∙ lawful_within kind body h)
      ∙ ap (λ (k : ℕ). Answer.Record k (place + 4) (length_at log place - 2) (place + 2 + length_at log place)) kind_there
      ∙ ap₂ (λ (n m : ℕ). Answer.Record kind (place + 4) n m) size next

-- READ, THEN WRITTEN: the record of what was found is what stands there
module _ (log : List ℕ) (place kind body len next : ℕ) (b : Bytes log) (e : found_at log place ≡ Answer.Record kind body len next) where
  there : Recorded log place kind body len next
  there = record_there log place kind body len next e

  abbrev found : List ℕ
  found = take len (drop body log)

  length_found : length found ≡ len
  length_found = length-take-le len (drop body log) (omega (arith, length-drop body log, there.counts, there.inside, there.body_there, there.len_there))

  same_body : found ≡ body_at log place
  unfolding body_at
  same_body = ap₂ (λ (n m : ℕ). take n (drop m log)) there.len_there there.body_there

  pub lawful_there : lawful kind found ≡ true
  unfolding lawful
  lawful_there = rw (there.known_kind, same_body, there.limits)

  pub writes_back : record_of kind found ≡ take (next - place) (drop place log)
  unfolding record_of
  writes_back =
      let room : place + 2 + length_at log place ≤ length log = there.inside in
      let counted : 2 + length found ≡ low_first_at log place = unfold length_at in omega (arith, length_found, there.counts, there.len_there) in
      let kind_is : kind ≡ low_first_at log (place + 2) = unfold kind_at in there.kind_there in
      let size : 2 + (2 + len) ≡ next - place = omega (arith, there.counts, there.len_there, there.next_there) in
      let four : place + 2 + 2 ≡ body = omega (arith, there.body_there) in
      ap₂ (λ (x y : List ℕ). x ++ (y ++ found))
      (ap low_first counted ∙ low_first_written log place b (omega (arith, there.counts)))
      (ap low_first kind_is ∙ low_first_written log (place + 2) b (omega (arith, there.counts)))
      ∙ ap (λ (i : ℕ). take 2 (drop place log) ++ (take 2 (drop (place + 2) log) ++ take len (drop i log))) (sym four)
      ∙ ap (λ (l : List ℕ). take 2 (drop place log) ++ (take 2 (drop (place + 2) log) ++ take len l)) (sym (drop-drop 2 (place + 2) log))
      ∙ ap (λ (l : List ℕ). take 2 (drop place log) ++ l) (sym (take-add 2 len (drop (place + 2) log)))
      ∙ ap (λ (l : List ℕ). take 2 (drop place log) ++ take (2 + len) l) (sym (drop-drop 2 place log))
      ∙ sym (take-add 2 (2 + len) (drop place log))
      ∙ ap (λ (n : ℕ). take n (drop place log)) size

-- THE ENTRIES: what `put` wrote, `record_at` finds, with the body; and what `record_at` found, `put` writes as it stands in the log.
put_lawful : (kind : ℕ) (body out : List ℕ) → put_number kind body out ≡ 0 → lawful kind body ≡ true
unfolding put_number lawful
put_lawful kind body out e =
    let is_known = none_first (not (known kind)) 10 _ e in
    let is_within = none_first (not (within kind body)) 10 _ is_known.1 in
    rw (not-false (known kind) is_known.0, not-false (within kind body) is_within.0)

module _ (kind : ℕ) (body out : List ℕ) (r : Written) (out' : List ℕ) (w : Puts kind body out r out') (z : r.number ≡ 0) where
  zero : eqb (put_number kind body out) 0 ≡ true
  zero = eq-eqb _ 0 (sym w.number ∙ z)

  pub long_put : r.length ≡ 4 + length body
  long_put = w.long ∙ pick_true _ _ _ zero

  pub wrote : take r.length out' ≡ record_of kind body
  wrote =
      ap₂ (λ (n : ℕ) (l : List ℕ). take n l) long_put (w.output ∙ pick_true _ _ _ zero)
      ∙ take_over (record_of kind body) out (4 + length body) (length_record kind body)

  module _ (before after : List ℕ) where
    pub put_then_read : found_at (before ++ (take r.length out' ++ after)) (length before)
        ≡ Answer.Record kind (length before + 4) (length body) (length before + r.length)
    put_then_read =
        ap (λ (l : List ℕ). found_at (before ++ (l ++ after)) (length before)) wrote
        ∙ reads_back kind body before after (put_lawful kind body out (sym w.number ∙ z))
        ∙ ap (λ (n : ℕ). Answer.Record kind (length before + 4) (length body) (length before + n)) (sym long_put)

    pub body_then_read : take (length body) (drop (length before + 4) (before ++ (take r.length out' ++ after))) ≡ body
    body_then_read =
        ap (λ (l : List ℕ). take (length body) (drop (length before + 4) (before ++ (l ++ after)))) wrote
        ∙ ap (take (length body)) (body_from kind body before after)
        ∙ take_at body after (length body) refl

module _ (log : List ℕ) (place kind body len next : ℕ) (b : Bytes log) (e : found_at log place ≡ Answer.Record kind body len next) (out : List ℕ) (r : Written)
    (out' : List ℕ) (w : Puts kind (take len (drop body log)) out r out') (room : next - place ≤ length out) where
  pub read_then_put : (r.number ≡ 0) × (r.length ≡ next - place) × (take (next - place) out' ≡ take (next - place) (drop place log))
  read_then_put =
      let found = take len (drop body log) in
      let t = record_there log place kind body len next e in
      let long : 4 + length found ≡ next - place = omega (arith, length_found log place kind body len next b e, t.counts, t.len_there, t.next_there) in
      let h = lawful_there log place kind body len next b e in
      let z : r.number ≡ 0 = w.number ∙ none kind found out (lawful_known kind found h) (lawful_within kind found h) (omega arith) in
      let size : r.length ≡ next - place = long_put kind found out r out' w z ∙ long in
      (z, size, ap (λ (n : ℕ). take n out') (sym size) ∙ wrote kind found out r out' w z ∙ writes_back log place kind body len next b e)
