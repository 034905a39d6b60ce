-- A rig as its callers see it: a writer, a chain and a reader, each by what it answers and what it leaves in the memory lent to it. What is promised of the
-- link is promised of any rig; `ours` is the one of the layers below. Assumes nothing.
use Rattle.std.specs.Prelude.{ℕ, List, length}
use Rattle.frames.specs.Writer.{writer_number, writer_length, writer_out}
use Rattle.chain.specs.Chain.{chain_number, chain_word, chain_state, chain_reply}
use Rattle.host.specs.Reader.{reader_number, reader_bytes, reader_marks}

-- the writer: its number, how many bytes the frame has, the lent output
pub record Made : Type 0 where
  pub number : ℕ
  pub size : ℕ
  pub out : List ℕ

-- the chain: its number and word, the lent registers, the lent reply
pub record Served : Type 0 where
  pub number : ℕ
  pub word : ℕ
  pub registers : List ℕ
  pub reply : List ℕ

-- the reader: its number, the lent bytes, the lent marks
pub record Handed : Type 0 where
  pub number : ℕ
  pub bytes : List ℕ
  pub marks : List ℕ

-- writer: N, command, data, output. chain: N, frame, registers, reply. reader: N, command, reply, bytes, marks.
pub record Rig : Type 0 where
  pub writer : ℕ → ℕ → List ℕ → List ℕ → Made
  pub chain : ℕ → List ℕ → List ℕ → List ℕ → Served
  pub reader : ℕ → ℕ → List ℕ → List ℕ → List ℕ → Handed

-- ours, by the number that each comes back with
abbrev pub made_by : ℕ → ℕ → ℕ → List ℕ → List ℕ → Made
made_by number n code bytes out = record { number = number; size = writer_length number n code; out = writer_out number n code bytes out }

abbrev pub served_by : ℕ → ℕ → List ℕ → List ℕ → List ℕ → Served
served_by number n frame state reply = record {
  number = number;
  word = chain_word number n frame;
  registers = chain_state number n frame state;
  reply = chain_reply number n frame state reply;
}

abbrev pub handed_by : ℕ → ℕ → List ℕ → List ℕ → List ℕ → Handed
handed_by number n reply bytes marks = record { number = number; bytes = reader_bytes number n reply bytes; marks = reader_marks number n reply marks }

abbrev pub ours : Rig
ours = record {
  writer = λ n code bytes out. made_by (writer_number n code (length bytes) (length out)) n code bytes out;
  chain = λ n frame state reply. served_by (chain_number n frame state (length reply)) n frame state reply;
  reader = λ n code reply bytes marks. handed_by (reader_number n code (length reply) (length bytes) (length marks)) n reply bytes marks;
}
