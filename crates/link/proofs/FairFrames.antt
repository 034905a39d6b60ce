-- The hypotheses of demand 3 can be met, for every command and size: with no noise, with the command hit, and with the group of any one device hit, in a
-- write on the way out and in a read on the way back. Assumes nothing.
use mathlib.Core.Path.{◌≡◌, refl, sym, ap, ap₂, ◌∙◌, subst}
use mathlib.Core.Bool.{Bool, true, false, ◌||◌}
use mathlib.Core.Logic.{◌⊎◌, inl, inr, ⊎_elim}
use mathlib.Core.List.{List, [], ◌∷◌, ◌++◌}
use Prim.Native.Nat.{ℕ, zero, suc, ◌+◌, ◌*◌, ◌-◌, ◌≤◌, ◌<◌}
use native.Mathlib.Nat.{eq-or-lt_of_le}
use native.Mathlib.Omega.{arith}
use lib.Dec.{lit<}
use lib.ListN.{length, get_or, take, drop, replicate, length-append, length-replicate}
use lib.Seq.{get_or-drop, get_or-take, drop_at}
use Rattle.lent.specs.Bytes.{Bytes}
use Rattle.lent.specs.Refusal.{pick}
use Rattle.lent.proofs.Bytes.{bytes_append, bytes_replicate}
use Rattle.lent.proofs.Parts.{take_replicate}
use Rattle.lent.proofs.Tests.{lt_or_le}
use Rattle.pec.specs.Register.{bits}
use Rattle.pec.specs.Noise.{hit, Noise, Allowed}
use Rattle.pec.specs.Noise.Noise.{burst}
use Rattle.pec.proofs.Mask.{unhit_take, unhit_part, unhit_zeros}
use Rattle.frames.specs.Kind.{data_needed, frame_length}
use Rattle.frames.specs.Commands.{rows, found, kind_of, group_of}
use Rattle.frames.specs.Places.{wire, eight}
use Rattle.frames.proofs.KindCases.{needs_data, needs_none, length_long, length_least}
use Rattle.link.specs.Sending.{Sending, Fair}
use Rattle.link.specs.Promise.{lost, missed, unread}

-- A FRAME FOR ANY COMMAND AND DATA, with any masks
abbrev pub masked : ℕ → ℕ → List ℕ → List ℕ → List ℕ → Sending
masked n code bytes forth back = record {
  code = code;
  bytes = bytes;
  out = replicate (frame_length n (kind_of code)) 0;
  reply = replicate (frame_length n (kind_of code)) 0;
  read = replicate (6 * n) 0;
  marks = replicate n 0;
  forth = forth;
  back = back;
}

-- a mask that flips nothing
abbrev pub quiet : ℕ → ℕ → List ℕ
quiet n code = replicate (frame_length n (kind_of code)) 0

-- a mask of so many bytes that flips one bit, the lowest of the byte at a place
abbrev pub flipped : ℕ → ℕ → List ℕ
flipped at long = replicate at 0 ++ (1 ∷ replicate (long - suc at) 0)

-- no noise
abbrev pub plain : ℕ → ℕ → List ℕ → Sending
plain n code bytes = masked n code bytes (quiet n code) (quiet n code)

-- the closing bit of the command flipped
abbrev pub command_hit : ℕ → ℕ → List ℕ → Sending
command_hit n code bytes = masked n code bytes (flipped 3 (frame_length n (kind_of code))) (quiet n code)

-- a write, one bit of the group of device k + 1 flipped
abbrev pub group_hit : ℕ → ℕ → List ℕ → ℕ → Sending
group_hit n code bytes k = masked n code bytes (flipped (4 + 8 * (n - 1 - k)) (frame_length n (kind_of code))) (quiet n code)

-- a read, one bit of the reply group of device k + 1 flipped
abbrev pub reply_hit : ℕ → ℕ → ℕ → Sending
reply_hit n code k = masked n code [] (quiet n code) (flipped (4 + 8 * k) (frame_length n (kind_of code)))

-- THE NOISE OF ONE FLIP
zeros_at : (n i : ℕ) → get_or {A = ℕ} (replicate n 0) i 0 ≡ 0
zeros_at zero i = refl
zeros_at (suc n) zero = refl
zeros_at (suc n) (suc i) = zeros_at n i

abbrev group_bits : List ℕ
group_bits = bits (1 ∷ replicate 7 0)

group_noise : Noise group_bits
group_noise = burst 0 (lit< tt) within
  where
    within : (i : ℕ) → (i < 0) ⊎ (0 + 15 ≤ i) → get_or group_bits i 0 ≡ 0
    within i (inl h) = absurd (omega arith)
    within i (inr h) =
        let e : 15 + (i - 15) ≡ i = omega arith in
        ap (λ (j : ℕ). get_or group_bits j 0) (sym e) ∙ sym (get_or-drop 15 group_bits (i - 15) 0) ∙ zeros_at 49 (i - 15)

abbrev command_bits : List ℕ
command_bits = bits (0 ∷ 0 ∷ 0 ∷ 1 ∷ [])

command_noise : Noise command_bits
command_noise = burst 31 (lit< tt) within
  where
    within : (i : ℕ) → (i < 31) ⊎ (31 + 15 ≤ i) → get_or command_bits i 0 ≡ 0
    within i (inl h) = sym (get_or-take 31 command_bits i 0 h) ∙ zeros_at 31 i
    within i (inr h) =
        let e : 32 + (i - 32) ≡ i = omega arith in
        ap (λ (j : ℕ). get_or command_bits j 0) (sym e) ∙ sym (get_or-drop 32 command_bits (i - 32) 0)

-- WHERE ONE FLIP HITS: the group that it lies in, and no other
flipped_long : (at long : ℕ) → at < long → length (flipped at long) ≡ long
flipped_long at long h =
    let rest : List ℕ = replicate (long - suc at) 0 in
    let l : length (1 ∷ rest) ≡ suc (long - suc at) = ap suc (length-replicate {A = ℕ} (long - suc at) 0) in
    omega (arith, length-append (replicate at 0) (1 ∷ rest), length-replicate {A = ℕ} at 0)

flipped_bytes : (at long : ℕ) → Bytes (flipped at long)
flipped_bytes at long =
    bytes_append (replicate at 0) (1 ∷ replicate (long - suc at) 0) (bytes_replicate at 0 (lit< tt)) (lit< tt, bytes_replicate (long - suc at) 0 (lit< tt))

before : (m at : ℕ) (rest : List ℕ) → m ≤ at → hit (take m (replicate at 0 ++ rest)) ≡ false
unfolding hit
before zero at rest h = refl
before (suc m) zero rest h = absurd (omega arith)
before (suc m) (suc at) rest h = before m at rest (omega arith)

away : (from at more : ℕ) → (at < from) ⊎ (from + 8 ≤ at) → hit (take 8 (drop from (replicate at 0 ++ (1 ∷ replicate more 0)))) ≡ false
away zero at more (inl h) = absurd (omega arith)
away zero at more (inr h) = before 8 at (1 ∷ replicate more 0) (omega arith)
away (suc from) zero more h = unhit_part 8 from (replicate more 0) (unhit_zeros more)
away (suc from) (suc at) more (inl h) = away from at more (inl (omega arith))
away (suc from) (suc at) more (inr h) = away from at more (inr (omega arith))

group_at : (at long : ℕ) → at + 8 ≤ long → take 8 (drop at (flipped at long)) ≡ 1 ∷ replicate 7 0
group_at at long h =
    ap (take 8) (drop_at (replicate at 0) (1 ∷ replicate (long - suc at) 0) at (length-replicate {A = ℕ} at 0))
    ∙ ap (λ (l : List ℕ). 1 ∷ l) (take_replicate 7 (long - suc at) 0 (omega arith))

group_is_hit : (at long : ℕ) → at + 8 ≤ long → hit (take 8 (drop at (flipped at long))) ≡ true
group_is_hit at long h = ap hit (group_at at long h) ∙ (unfold hit in refl)

groups_allowed : (a b long : ℕ) → 4 + 8 * a + 8 ≤ long → Allowed (take 8 (drop (4 + 8 * b) (flipped (4 + 8 * a) long)))
unfolding Allowed
groups_allowed a b long h = ⊎_elim (λ l. other (inl (omega arith))) (λ l. ⊎_elim own (λ m. other (inr (omega arith))) (eq-or-lt_of_le l)) (lt_or_le a b)
  where
    at : ℕ
    at = 4 + 8 * a

    other : (at < 4 + 8 * b) ⊎ (4 + 8 * b + 8 ≤ at) → Allowed (take 8 (drop (4 + 8 * b) (flipped at long)))
    other apart = inl (away (4 + 8 * b) at (long - suc at) apart)

    own : b ≡ a → Allowed (take 8 (drop (4 + 8 * b) (flipped at long)))
    own e =
        subst (λ (c : ℕ). Allowed (take 8 (drop (4 + 8 * c) (flipped at long)))) (sym e)
        (inr (subst (λ (l : List ℕ). Noise (bits l)) (sym (group_at at long h)) group_noise))

-- FAIR FRAMES, for every size, every command of the table and its data
module _ (n code : ℕ) (bytes : List ℕ) (known : kind_of code ≡ 0 → ⊥) (needed : length bytes ≡ data_needed n (kind_of code)) (are : Bytes bytes) where
  abbrev long : ℕ
  long = frame_length n (kind_of code)

  none : hit (quiet n code) ≡ false
  none = unhit_zeros long

  quiet_command : Allowed (take 4 (quiet n code))
  unfolding Allowed
  quiet_command = inl (unhit_take 4 (quiet n code) none)

  quiet_groups : (k : ℕ) → Allowed (wire n k (quiet n code))
  unfolding Allowed wire
  quiet_groups k = inl (unhit_part 8 (4 + 8 * (n - 1 - k)) (quiet n code) none)

  quiet_replies : (k : ℕ) → Allowed (eight k (quiet n code))
  unfolding Allowed eight
  quiet_replies k = inl (unhit_part 8 (4 + 8 * k) (quiet n code) none)

  masked_fair : (forth back : List ℕ) → Bytes forth → length forth ≡ long → Bytes back → length back ≡ long
      → (hit forth ≡ false) ⊎ (hit back ≡ false) → Allowed (take 4 forth) → (kind_of code ≡ 1 → (k : ℕ) → k < n → Allowed (wire n k forth))
      → (kind_of code ≡ 2 → (k : ℕ) → k < n → Allowed (eight k back)) → Fair n (masked n code bytes forth back)
  masked_fair forth back forth_bytes forth_long back_bytes back_long one_way command groups replies = record {
    known = known;
    needed = needed;
    are_bytes = are;
    out_room = omega (arith, length-replicate {A = ℕ} long 0);
    reply_room = omega (arith, length-replicate {A = ℕ} long 0);
    read_room = λ q. omega (arith, length-replicate {A = ℕ} (6 * n) 0);
    marks_room = λ q. omega (arith, length-replicate {A = ℕ} n 0);
    forth_bytes = forth_bytes;
    forth_long = forth_long;
    back_bytes = back_bytes;
    back_long = back_long;
    one_way = one_way;
    command = command;
    groups = groups;
    replies = replies;
  }

  -- a mask on the way out, none on the way back; and the other way round
  forth_fair : (forth : List ℕ) → Bytes forth → length forth ≡ long → Allowed (take 4 forth)
      → (kind_of code ≡ 1 → (k : ℕ) → k < n → Allowed (wire n k forth)) → Fair n (masked n code bytes forth (quiet n code))
  forth_fair forth forth_bytes forth_long command groups =
      masked_fair forth (quiet n code) forth_bytes forth_long (bytes_replicate long 0 (lit< tt)) (length-replicate {A = ℕ} long 0) (inr none) command groups
      (λ q k h. quiet_replies k)

  back_fair : (back : List ℕ) → Bytes back → length back ≡ long → (kind_of code ≡ 2 → (k : ℕ) → k < n → Allowed (eight k back))
      → Fair n (masked n code bytes (quiet n code) back)
  back_fair back back_bytes back_long replies =
      masked_fair (quiet n code) back (bytes_replicate long 0 (lit< tt)) (length-replicate {A = ℕ} long 0) back_bytes back_long (inl none) quiet_command
      (λ q k h. quiet_groups k) replies

  pub plain_fair : Fair n (plain n code bytes)
  plain_fair = forth_fair (quiet n code) (bytes_replicate long 0 (lit< tt)) (length-replicate {A = ℕ} long 0) quiet_command (λ q k h. quiet_groups k)

  pub command_hit_fair : Fair n (command_hit n code bytes)
  unfolding Allowed wire
  command_hit_fair =
      let least : 4 ≤ long = length_least n (kind_of code) in
      forth_fair (flipped 3 long) (flipped_bytes 3 long) (flipped_long 3 long (omega arith)) (inr command_noise)
      (λ q k h. inl (away (4 + 8 * (n - 1 - k)) 3 (long - 4) (inl (omega arith))))

  pub group_hit_fair : kind_of code ≡ 1 → (k : ℕ) → k < n → Fair n (group_hit n code bytes k)
  unfolding Allowed wire
  group_hit_fair w k h =
      let e : long ≡ 4 + 8 * n = length_long n (kind_of code) (omega arith) in
      let at : ℕ = 4 + 8 * (n - 1 - k) in
      forth_fair (flipped at long) (flipped_bytes at long) (flipped_long at long (omega arith))
      (inl (before 4 at (1 ∷ replicate (long - suc at) 0) (omega arith)))
      (λ q j l. groups_allowed (n - 1 - k) (n - 1 - j) long (omega arith))

-- The command is hit, or that device's group.
pub command_hit_lost : (n code : ℕ) (bytes : List ℕ) → lost (command_hit n code bytes) ≡ true
unfolding lost hit
command_hit_lost n code bytes = refl

pub group_hit_missed : (n code : ℕ) (bytes : List ℕ) → kind_of code ≡ 1 → (k : ℕ) → k < n → missed n (group_hit n code bytes k) k ≡ true
unfolding missed lost wire
group_hit_missed n code bytes w k h =
    let e : frame_length n (kind_of code) ≡ 4 + 8 * n = length_long n (kind_of code) (omega arith) in
    let at : ℕ = 4 + 8 * (n - 1 - k) in
    ap₂ (λ (a b : Bool). a || b) (before 4 at (1 ∷ replicate (frame_length n (kind_of code) - suc at) 0) (omega arith))
    (group_is_hit at (frame_length n (kind_of code)) (omega arith))

-- a read takes no data
pub reply_hit_fair : (n code k : ℕ) → kind_of code ≡ 2 → k < n → Fair n (reply_hit n code k)
unfolding eight
reply_hit_fair n code k r h =
    let long : ℕ = frame_length n (kind_of code) in
    let e : long ≡ 4 + 8 * n = length_long n (kind_of code) (omega arith) in
    let at : ℕ = 4 + 8 * k in
    back_fair n code [] (λ q. omega arith) (sym (needs_none n (kind_of code) (λ q. omega arith))) tt (flipped at long) (flipped_bytes at long)
    (flipped_long at long (omega arith)) (λ q j l. groups_allowed k j long (omega arith))

pub reply_hit_unread : (n code k : ℕ) → kind_of code ≡ 2 → k < n → unread (reply_hit n code k) k ≡ true
unfolding unread lost eight
reply_hit_unread n code k r h =
    let e : frame_length n (kind_of code) ≡ 4 + 8 * n = length_long n (kind_of code) (omega arith) in
    ap₂ (λ (a b : Bool). a || b) (unhit_take 4 (quiet n code) (unhit_zeros (frame_length n (kind_of code))))
    (group_is_hit (4 + 8 * k) (frame_length n (kind_of code)) (omega arith))

-- FRAMES OF CFGA, which wrong versions are tried on: 001 writes it, 002 reads it
pub cfga_write : kind_of 1 ≡ 1
unfolding kind_of rows found pick
cfga_write = refl

pub cfga_read : kind_of 2 ≡ 2
unfolding kind_of rows found pick
cfga_read = refl

pub cfga_group : group_of 1 ≡ 0
unfolding group_of rows found pick
cfga_group = refl

-- a write of any data: not hit, its command hit, the group of device k + 1 hit
module _ (n : ℕ) (bytes : List ℕ) (long : length bytes ≡ 6 * n) (are : Bytes bytes) where
  write_known : kind_of 1 ≡ 0 → ⊥
  write_known e = omega (arith, cfga_write)

  write_needed : length bytes ≡ data_needed n (kind_of 1)
  write_needed = long ∙ sym (needs_data n (kind_of 1) cfga_write)

  pub write_fair : Fair n (plain n 1 bytes)
  write_fair = plain_fair n 1 bytes write_known write_needed are

  pub write_lost_fair : Fair n (command_hit n 1 bytes)
  write_lost_fair = command_hit_fair n 1 bytes write_known write_needed are

  pub write_hit_fair : (k : ℕ) → k < n → Fair n (group_hit n 1 bytes k)
  write_hit_fair = group_hit_fair n 1 bytes write_known write_needed are cfga_write

-- a read: not hit, its command hit (`reply_hit_fair`: a reply group hit)
read_known : kind_of 2 ≡ 0 → ⊥
read_known e = omega (arith, cfga_read)

read_needed : (n : ℕ) → 0 ≡ data_needed n (kind_of 2)
read_needed n = sym (needs_none n (kind_of 2) (λ e. omega (arith, cfga_read)))

pub read_fair : (n : ℕ) → Fair n (plain n 2 [])
read_fair n = plain_fair n 2 [] read_known (read_needed n) tt

pub read_lost_fair : (n : ℕ) → Fair n (command_hit n 2 [])
read_lost_fair n = command_hit_fair n 2 [] read_known (read_needed n) tt
