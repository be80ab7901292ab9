-- What writing the frames of a text that has been searched asks and leaves. These are definitions.
use Rattle.std.specs.Prelude.{List, ◌≡◌, ℕ, ◌≤◌, length, take}
use Rattle.answers.specs.Answers.{converted}
use Rattle.answers.specs.Buffers.{in_front}
use Rattle.answers.specs.Refusals.{longest_pattern, longest_text}
use Rattle.answers.specs.declared.Answer.{Answer}
use Rattle.frames.specs.Frames.{hold, holds, with_holds}
use Rattle.ones.specs.Ones.{ones_of}

-- a text that is taken, room for its frames, a hold offset of a pattern that is taken, and h entries, no more than the text has bytes
pub record FramesReady (h q : ℕ) (t found frame : List ℕ) : Type 0 where
  pub text : length t ≤ longest_text
  pub room : length t ≤ length frame
  pub counted : h ≤ length found
  pub few : h ≤ length t
  pub hold_offset : q ≤ longest_pattern

-- the answer of the search with the ones of the text, and the moves with the holds of as many entries as the search counted
pub record FramesWritten (searched : Answer) (q : ℕ) (t found frame frame' : List ℕ) (r : Answer) : Type 0 where
  pub answer : r ≡ converted searched (ones_of t)
  pub frames_left : frame' ≡ with_holds hold (holds (length t) q (take searched.occurrences found)) (in_front t frame)
