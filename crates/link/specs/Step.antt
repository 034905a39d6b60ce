-- What happens with one frame: writer, noise out, chain, noise back, reader. Assumes nothing.
use Rattle.std.specs.Prelude.{ℕ, List, length, take, replicate}
use Rattle.pec.specs.Noise.{noisy}
use Rattle.link.specs.Rig.{Rig, Made, Served, Handed}
use Rattle.link.specs.Sending.{Sending}

-- the frame: as many bytes of the writer's output as it says
unfoldable pub frame : Rig → ℕ → Sending → List ℕ
frame R n s = take (R.writer n s.code s.bytes s.out).size (R.writer n s.code s.bytes s.out).out

-- what the chain gets of it, and what it makes of that on the registers as they stand
unfoldable pub arrives : Rig → ℕ → Sending → List ℕ
arrives R n s = noisy s.forth (frame R n s)

unfoldable pub serves : Rig → ℕ → Sending → List ℕ → Served
serves R n s registers = R.chain n (arrives R n s) registers s.reply

-- what the reader gets, as many bytes of the reply as the frame has, and what it makes of that
unfoldable pub returns : Rig → ℕ → Sending → List ℕ → List ℕ
returns R n s registers = noisy s.back (take (length (frame R n s)) (serves R n s registers).reply)

unfoldable pub hands : Rig → ℕ → Sending → List ℕ → Handed
hands R n s registers = R.reader n s.code (returns R n s registers) s.read s.marks

-- what is seen of one frame: the writer's number; the chain's number and word, and the registers; the reader's number, bytes and marks
pub record Seen : Type 0 where
  pub made : ℕ
  pub number : ℕ
  pub word : ℕ
  pub registers : List ℕ
  pub asked : ℕ
  pub bytes : List ℕ
  pub marks : List ℕ

abbrev pub gathered : Made → Served → Handed → Seen
gathered w c h = record {
  made = w.number;
  number = c.number;
  word = c.word;
  registers = c.registers;
  asked = h.number;
  bytes = h.bytes;
  marks = h.marks;
}

unfoldable pub step : Rig → ℕ → Sending → List ℕ → Seen
step R n s registers = gathered (R.writer n s.code s.bytes s.out) (serves R n s registers) (hands R n s registers)

-- the same frame with no noise
unfoldable pub calm : Sending → Sending
calm s = record {
  code = s.code;
  bytes = s.bytes;
  out = s.out;
  reply = s.reply;
  read = s.read;
  marks = s.marks;
  forth = replicate (length s.forth) 0;
  back = replicate (length s.back) 0;
}
