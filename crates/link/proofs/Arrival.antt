-- What arrives of a fair frame, and what the chain's number, registers and word then are: the command is right exactly when it was not hit. Assumes nothing.
use mathlib.Core.Path.{◌≡◌, refl, sym, ap, ◌∙◌, subst}
use mathlib.Core.Bool.{Bool, true, false, not}
use mathlib.Core.List.{List}
use Prim.Native.Nat.{ℕ, ◌+◌, ◌≤◌}
use native.Mathlib.Omega.{arith}
use lib.ListN.{length, take}
use lib.Seq.{length-take-le}
use Rattle.lent.specs.Memory.{over}
use Rattle.lent.specs.Refusal.{pick}
use Rattle.lent.proofs.Bytes.{bytes_take}
use Rattle.pec.specs.Group.{two_bytes, with_pec, right}
use Rattle.pec.specs.Noise.{noisy}
use Rattle.pec.proofs.Mask.{length_noisy, take_noisy, unhit_same}
use Rattle.pec.proofs.Noise.{found_right}
use Rattle.frames.specs.Size.{outside}
use Rattle.frames.specs.Kind.{frame_length}
use Rattle.frames.specs.Commands.{kind_of, group_of}
use Rattle.frames.specs.Frame.{frame_of}
use Rattle.frames.specs.Writer.{writer_number}
use Rattle.frames.proofs.Sizes as Sizes
use Rattle.frames.proofs.KindCases.{length_least}
use Rattle.frames.proofs.FrameParts.{makes, length_frame, frame_out, take_frame, bytes_command}
use Rattle.registers.specs.State.{Sound}
use Rattle.registers.specs.Effect.{silence, answer, changed, report}
use Rattle.chain.specs.Chain.{code_of, fills, chain_word, chain_state, chain_reply}
use Rattle.chain.proofs.CodeLaws.{code_of_right}
use Rattle.chain.proofs.Numbers.{number_4, number_0}
use Rattle.link.specs.Rig.{ours}
use Rattle.link.specs.Sending.{Sending, kind, group, Fair}
use Rattle.link.specs.Step.{frame, arrives, serves, step}
use Rattle.link.specs.Promise.{lost}

length_two : (w : ℕ) → length (two_bytes w) ≡ 2
unfolding two_bytes
length_two w = refl

module _ (n : ℕ) (n1 : 1 ≤ n) (n16 : n ≤ 16) (s : Sending) (state : List ℕ) (F : Fair n s) (sound : Sound n state) where
  pub inside : outside n ≡ false
  inside = Sizes.inside n n1 n16

  -- the writer makes the frame
  pub made : writer_number n s.code (length s.bytes) (length s.out) ≡ 0
  made = makes n s.code (length s.bytes) (length s.out) (record { size = inside; known = F.known; needed = F.needed; room = F.out_room })

  pub frame_is : frame ours n s ≡ frame_of n s.code s.bytes
  unfolding frame
  frame_is =
      frame_out n s.code s.bytes s.out (writer_number n s.code (length s.bytes) (length s.out)) made
      (length_frame n s.code s.bytes F.known F.needed)

  pub frame_long : length (frame ours n s) ≡ frame_length n (kind s)
  frame_long = ap length frame_is ∙ length_frame n s.code s.bytes F.known F.needed

  pub arrives_long : length (arrives ours n s) ≡ frame_length n (kind s)
  unfolding arrives
  arrives_long = length_noisy s.forth (frame ours n s) ∙ frame_long

  -- the command group
  command_arrives : take 4 (arrives ours n s) ≡ noisy (take 4 s.forth) (with_pec (two_bytes s.code))
  unfolding arrives
  command_arrives = take_noisy 4 s.forth (frame ours n s) ∙ ap (noisy (take 4 s.forth)) (ap (take 4) frame_is ∙ take_frame n s.code s.bytes)

  four : 4 ≤ frame_length n (kind s)
  four = length_least n (kind s)

  command_right : right (take 4 (arrives ours n s)) ≡ not (lost s)
  unfolding lost
  command_right =
      ap right command_arrives
      ∙ found_right (two_bytes s.code) (take 4 s.forth) (bytes_command s.code F.known) (bytes_take 4 s.forth F.forth_bytes)
      (length-take-le 4 s.forth (omega (arith, F.forth_long, four)) ∙ ap (λ (x : ℕ). x + 2) (sym (length_two s.code))) (omega (arith, length_two s.code)) F.command

  code_arrives : lost s ≡ false → code_of (arrives ours n s) ≡ s.code
  unfolding lost
  code_arrives e = code_of_right (arrives ours n s) s.code (command_arrives ∙ unhit_same (take 4 s.forth) (with_pec (two_bytes s.code)) e)

  -- the chain's number
  room : length (arrives ours n s) ≤ length s.reply
  room = omega (arith, arrives_long, F.reply_room)

  long : 4 ≤ length (arrives ours n s)
  long = omega (arith, arrives_long, four)

  pub number_lost : lost s ≡ true → (serves ours n s state).number ≡ 4
  unfolding serves
  number_lost e = number_4 n (arrives ours n s) state (length s.reply) inside sound room long (command_right ∙ ap not e)

  pub number_good : lost s ≡ false → (serves ours n s state).number ≡ 0
  unfolding serves
  number_good e =
      let c = code_arrives e in
      number_0 n (arrives ours n s) state (length s.reply) inside sound room long (command_right ∙ ap not e) (kind s) (ap kind_of (sym c)) F.known
      (frame_length n (kind s)) refl arrives_long

  -- registers, word and reply, by whether the command was hit
  pub state_lost : lost s ≡ true → (step ours n s state).registers ≡ state
  unfolding step serves chain_state pick
  state_lost e = ap (λ (a : ℕ). chain_state a n (arrives ours n s) state) (number_lost e)

  pub word_lost : lost s ≡ true → (step ours n s state).word ≡ 0
  unfolding step serves chain_word pick
  word_lost e = ap (λ (a : ℕ). chain_word a n (arrives ours n s)) (number_lost e)

  pub reply_lost : lost s ≡ true → (serves ours n s state).reply ≡ over (silence (length (arrives ours n s))) s.reply
  unfolding serves chain_reply fills pick
  reply_lost e = ap (λ (a : ℕ). chain_reply a n (arrives ours n s) state s.reply) (number_lost e)

  pub state_good : lost s ≡ false → (step ours n s state).registers ≡ changed n (kind s) (group s) (arrives ours n s) state
  unfolding step serves chain_state pick
  state_good e =
      ap (λ (a : ℕ). chain_state a n (arrives ours n s) state) (number_good e)
      ∙ ap (λ (c : ℕ). changed n (kind_of c) (group_of c) (arrives ours n s) state) (code_arrives e)

  -- what holds of the registers before, and of what a frame that is not lost makes of them, holds of them after
  pub holds : (P : List ℕ → Type 0) → P state → P (changed n (kind s) (group s) (arrives ours n s) state) → P (step ours n s state).registers
  holds P old new = go (lost s) refl
    where
      go : (b : Bool) → lost s ≡ b → P (step ours n s state).registers
      go true e = subst P (sym (state_lost e)) old
      go false e = subst P (sym (state_good e)) new

  pub word_good : lost s ≡ false → (step ours n s state).word ≡ report n (kind s) (arrives ours n s)
  unfolding step serves chain_word pick
  word_good e =
      ap (λ (a : ℕ). chain_word a n (arrives ours n s)) (number_good e) ∙ ap (λ (c : ℕ). report n (kind_of c) (arrives ours n s)) (code_arrives e)

  pub reply_good : lost s ≡ false → (serves ours n s state).reply ≡ over (answer n (kind s) (group s) (arrives ours n s) state) s.reply
  unfolding serves chain_reply pick
  reply_good e =
      ap (λ (a : ℕ). chain_reply a n (arrives ours n s) state s.reply) (number_good e)
      ∙ ap (λ (c : ℕ). over (answer n (kind_of c) (group_of c) (arrives ours n s) state) s.reply) (code_arrives e)
