-- After a clear of the cells that acted no cell is valid until the owner of the state changes it: no frame of ours writes those groups. And the hypotheses
-- can be met. Assumes nothing.
use mathlib.Core.Path.{◌≡◌, refl, sym, ap, ap₂, ◌∙◌}
use mathlib.Core.Bool.{Bool, true, false, not, ◌&&◌}
use mathlib.Core.List.{List, [], ◌∷◌}
use Prim.Native.Nat.{ℕ, ◌+◌, ◌*◌, ◌/◌, ◌%◌, ◌≤◌, ◌<◌}
use native.Mathlib.Omega.{arith}
use borrow.Author.Tests.{eqb-true, eq-eqb, not-true}
use lib.Dec.{eqb}
use lib.ListN.{get_or, drop, replicate, get_or-replicate}
use lib.Seq.{get_or-take, get_or-drop}
use Rattle.lent.specs.Bytes.{Bytes}
use Rattle.lent.specs.LowFirst.{low_first_at}
use Rattle.lent.specs.Refusal.{pick}
use Rattle.lent.proofs.Pick.{pick_true, pick_false}
use Rattle.lent.proofs.Tests.{and_left, and_right, each_below}
use Rattle.frames.specs.Kind.{frame_length}
use Rattle.frames.specs.Commands.{Row, rows, found, kind_of, group_of}
use Rattle.frames.specs.Places.{six}
use Rattle.frames.proofs.Lookup.{every, looked_up}
use Rattle.frames.proofs.KindCases.{needs_none}
use Rattle.pec.proofs.Mask.{unhit_take, unhit_zeros}
use Rattle.registers.specs.Dten.{with_dten}
use Rattle.registers.specs.State.{pin, shown, Sound}
use Rattle.host.specs.Marks.{was_read}
use Rattle.cells.specs.Cells.{count_at, read_at, cleared_at, unmeasured_at, valid_at}
use Rattle.cells.proofs.CellsCases.{each_bit, each_unmeasured}
use Rattle.link.specs.Rig.{Rig, ours}
use Rattle.link.specs.Sending.{Sending, kind, group, Fair}
use Rattle.link.specs.Promise.{lost, missed, sweeps, unread, Reads}
use Rattle.link.specs.Step.{Seen, step}
use Rattle.link.specs.Demands.{AllFair, Demand3}
use Rattle.link.specs.Story.{takes, holds, left}
use Rattle.link.specs.Unmeasured.{clears_cells, AfterClear, HandedOn, Unmeasured}
use Rattle.link.proofs.DemandLaws.{demand3}
use Rattle.link.proofs.StoryLaws.{first_obeys, run_holds}
use Rattle.link.proofs.FairFrames.{plain, quiet, plain_fair}

-- No write has a group that this clear sweeps: one test computed over the rows.
apart_test : ℕ → Row → Bool
apart_test h r = not (eqb r.kind 1 && (sweeps clears_cells h && eqb h r.group))

tested : (h : ℕ) → h < 18 → every (apart_test h) rows ≡ true
unfolding apart_test sweeps rows
tested h l = each_below (λ (i : ℕ). every (apart_test i) rows) 18 refl h l

no_write : (code h : ℕ) → h < 18 → sweeps clears_cells h ≡ true → kind_of code ≡ 1 → eqb h (group_of code) ≡ false
unfolding kind_of group_of apart_test
no_write code h l o e =
    let t : not (eqb (kind_of code) 1 && (sweeps clears_cells h && eqb h (group_of code))) ≡ true = looked_up (apart_test h) code refl refl (tested h l) in
    not-true (eqb h (group_of code)) (rw (e, o) at t)

abbrev blank : List ℕ
blank = replicate 6 255

same_pick : (b : Bool) (x : List ℕ) → pick b x x ≡ x
unfolding pick
same_pick true x = refl
same_pick false x = refl

module _ (n k h p : ℕ) (l : h < 18) (o : sweeps clears_cells h ≡ true) where
  -- a frame leaves a blank group of cells blank, and so does a run
  blank_stays : (s : Sending) → takes n k h p s blank ≡ blank
  unfolding takes
  blank_stays s = by_kind (eqb (kind s) 1) refl
    where
      cleared : (b c : Bool) → pick b (pick c blank blank) blank ≡ blank
      cleared b c = ap (λ (x : List ℕ). pick b x blank) (same_pick c blank) ∙ same_pick b blank

      by_kind : (w : Bool) → eqb (kind s) 1 ≡ w → takes n k h p s blank ≡ blank
      by_kind true e =
          pick_true (eqb (kind s) 1) _ _ e
          ∙ pick_false (eqb h (group s) && not (missed n s k)) (with_dten h p (six k s.bytes)) blank (ap (λ (b : Bool). b && not (missed n s k)) (no_write s.code h l o (eqb-true (kind s) 1 e)))
      by_kind false e = pick_false (eqb (kind s) 1) _ _ e ∙ cleared (eqb (kind s) 3) (sweeps s.code h && not (lost s))

  all_blank : (ss : List Sending) → holds n k h p ss blank ≡ blank
  all_blank [] = refl
  all_blank (s ∷ ss) = ap (holds n k h p ss) (blank_stays s) ∙ all_blank ss

is_clear : kind_of clears_cells ≡ 3
unfolding kind_of rows found pick
is_clear = refl

swept : (g : ℕ) → g < 6 → sweeps clears_cells (2 + g) ≡ true
unfolding sweeps
swept g h = each_below (λ (i : ℕ). sweeps clears_cells (2 + i)) 6 refl g h

module _ (R : Rig) (d : Demand3 R) (n : ℕ) (n1 : 1 ≤ n) (n16 : n ≤ 16) (state : List ℕ) (clear : Sending) (run : List Sending) (read : Sending) (g : ℕ)
    (A : AfterClear n state clear run read g) (k : ℕ) (lk : k < n) where
  abbrev after : List ℕ
  after = left R n state (clear ∷ run)

  abbrev seen : Seen
  seen = step R n read after

  blank_after : shown k (2 + g) after ≡ blank
  unfolding takes
  blank_after =
      let h = A.a_group in
      let l : 2 + g < 18 = omega arith in
      let o = swept g h in
      let old : List ℕ = shown k (2 + g) state in
      let c : kind clear ≡ 3 = ap kind_of A.clears ∙ is_clear in
      let acts : (sweeps clear.code (2 + g) && not (lost clear)) ≡ true = ap₂ (λ (x y : Bool). x && not y) (ap (λ (i : ℕ). sweeps i (2 + g)) A.clears ∙ o) A.acted in
      let first : takes n k (2 + g) (pin k state) clear old ≡ blank =
      pick_false (eqb (kind clear) 1) _ _ (ap (λ (i : ℕ). eqb i 1) c) ∙ pick_true (eqb (kind clear) 3) _ old (ap (λ (i : ℕ). eqb i 3) c) ∙ pick_true _ blank old acts in
      (run_holds R d n n1 n16 state A.are_bytes A.sound (clear ∷ run) (A.fair, A.run_fair)).2 k (2 + g) lk l
      ∙ ap (holds n k (2 + g) (pin k state) run) first
      ∙ all_blank n k (2 + g) (pin k state) l o run

  promised : Reads n read after seen
  promised =
      let held = run_holds R d n n1 n16 state A.are_bytes A.sound (clear ∷ run) (A.fair, A.run_fair) in
      (first_obeys R d n n1 n16 after held.0 held.1 read A.read_fair).read A.is_read

  abbrev was : Bool
  was = was_read (get_or seen.marks k 0)

  blank_if_read : was ≡ true → six k seen.bytes ≡ blank
  unfolding was_read
  blank_if_read e =
      promised.bytes k lk
      ∙ pick_false (unread read k) (replicate 6 0) _ (not-true (unread read k) (sym (promised.mark k lk) ∙ e))
      ∙ ap (λ (i : ℕ). shown k i after) A.of_cells
      ∙ blank_after

  module _ (groups marks : List ℕ) (H : HandedOn k g seen groups marks) where
    byte_at : (i : ℕ) → i < 6 → was ≡ true → get_or groups (6 * g + i) 0 ≡ 255
    unfolding six
    byte_at i h e =
        sym (get_or-drop (6 * g) groups i 0)
        ∙ sym (get_or-take 6 (drop (6 * g) groups) i 0 h)
        ∙ ap (λ (l : List ℕ). get_or l i 0) (H.bytes ∙ blank_if_read e)
        ∙ get_or-replicate 6 i 255 0 h

    module _ (c : ℕ) (e : c / 3 ≡ g) where
      read_as_held : read_at marks c ≡ was
      unfolding read_at
      read_as_held = ap (λ (i : ℕ). was_read (get_or marks i 0)) e ∙ ap was_read H.mark

      cleared_as_held : was ≡ true → cleared_at groups c ≡ true
      unfolding cleared_at count_at low_first_at
      cleared_as_held w =
          let low : 2 * c ≡ 6 * g + 2 * (c % 3) = omega arith in
          let high : 2 * c + 1 ≡ 6 * g + (2 * (c % 3) + 1) = omega arith in
          let at : ℕ → ℕ = λ i. get_or groups i 0 in
          eq-eqb (get_or groups (2 * c) 0 + 256 * get_or groups (2 * c + 1) 0) 65535
          (omega (arith, ap at low ∙ byte_at (2 * (c % 3)) (omega arith) w, ap at high ∙ byte_at (2 * (c % 3) + 1) (omega arith) w))

      not_valid : valid_at groups marks c ≡ false
      unfolding valid_at
      not_valid = by_mark (read_at marks c) refl
        where
          by_mark : (b : Bool) → read_at marks c ≡ b → (b && not (cleared_at groups c)) ≡ false
          by_mark true b = ap not (cleared_as_held (sym read_as_held ∙ b))
          by_mark false b = refl

      unmeasured_if_read : unmeasured_at groups marks c ≡ was
      unfolding unmeasured_at
      unmeasured_if_read = by_mark (read_at marks c) refl ∙ read_as_held
        where
          by_mark : (b : Bool) → read_at marks c ≡ b → (b && cleared_at groups c) ≡ b
          by_mark true b = cleared_as_held (sym read_as_held ∙ b)
          by_mark false b = refl

-- THE CELLS AFTER A CLEAR, for any rig that meets demand 3, and for ours
pub unmeasured : (R : Rig) → Demand3 R → Unmeasured R
unfolding pick
unmeasured R d n a b state clear run read g A k lk groups marks H r w z c e =
    let h : c < 18 = omega (arith, A.a_group) in (
      each_bit groups marks r w z c h ∙ ap (λ (x : Bool). pick x 1 0) (not_valid R d n a b state clear run read g A k lk groups marks H c e),
      each_unmeasured groups marks r w z c h ∙ ap (λ (x : Bool). pick x 1 0) (unmeasured_if_read R d n a b state clear run read g A k lk groups marks H c e),
    )

pub our_unmeasured : Unmeasured ours
our_unmeasured = unmeasured ours demand3

-- THE HYPOTHESES CAN BE MET, for every size, state, run and group of cells: with no noise on the clear and on the read
abbrev pub cell_read : ℕ → ℕ
cell_read g = get_or (0x004 ∷ 0x006 ∷ 0x008 ∷ 0x00A ∷ 0x009 ∷ 0x00B ∷ []) g 0

read_test : ℕ → Bool
read_test g = eqb (kind_of (cell_read g)) 2 && eqb (group_of (cell_read g)) (2 + g)

read_tested : (g : ℕ) → g < 6 → read_test g ≡ true
unfolding read_test kind_of group_of rows found pick
read_tested g h = each_below read_test 6 refl g h

-- a frame that takes no data
no_data : (n code : ℕ) → 2 ≤ kind_of code → Fair n (plain n code [])
no_data n code h = plain_fair n code [] (λ e. omega arith) (sym (needs_none n (kind_of code) (λ e. omega arith))) tt

pub after_clear_met : (n : ℕ) (state : List ℕ) → Bytes state → Sound n state → (run : List Sending) → AllFair n run → (g : ℕ) → g < 6
    → AfterClear n state (plain n clears_cells []) run (plain n (cell_read g) []) g
unfolding lost read_test
after_clear_met n state are sound run fair g h =
    let is_read = eqb-true (kind_of (cell_read g)) 2 (and_left (eqb (kind_of (cell_read g)) 2) (eqb (group_of (cell_read g)) (2 + g)) (read_tested g h)) in
    record {
      are_bytes = are;
      sound = sound;
      fair = no_data n clears_cells (omega (arith, is_clear));
      clears = refl;
      acted = unhit_take 4 (quiet n clears_cells) (unhit_zeros (frame_length n (kind_of clears_cells)));
      run_fair = fair;
      read_fair = no_data n (cell_read g) (omega (arith, is_read));
      is_read = is_read;
      a_group = h;
      of_cells = eqb-true (group_of (cell_read g)) (2 + g) (and_right (eqb (kind_of (cell_read g)) 2) (eqb (group_of (cell_read g)) (2 + g)) (read_tested g h));
    }
