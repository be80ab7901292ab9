-- What is promised of putting back (document 02, "Back to cards"): the test tells which frames are a conversion, and both round trips.
-- Each is a type, and its proof is in proofs/. These are definitions.
use Rattle.std.specs.Prelude.{true, List, ◌↔◌, ◌≡◌, ℕ, ◌<◌, length}
use Rattle.answers.specs.Bytes.{Bytes}
use Rattle.frames.specs.Frames.{frames}
use Rattle.restore_conversions.specs.Restored.{restored, is_conversion}

-- by meaning, frames are a conversion where some text (chain) of bytes (cards) converts to them
pub record Conversion (q : ℕ) (w gs : List ℕ) : Type 0 where
  pub text : List ℕ
  pub bytes : Bytes text
  pub converts : frames q w text ≡ gs

-- the test tells just that
unfoldable pub TestRight : Type 0
TestRight = (q : ℕ) (w gs : List ℕ) → Bytes w → q < length w → (is_conversion q w gs ≡ true) ↔ Conversion q w gs

-- converting and then putting back returns the text exactly
unfoldable pub ConvertedRestored : Type 0
ConvertedRestored = (q : ℕ) (w t : List ℕ) → Bytes t → q < length w → restored q w (frames q w t) ≡ t

-- so conversion is injective: texts of bytes that convert to the same frames are equal
unfoldable pub ConversionInjective : Type 0
ConversionInjective =
    (q : ℕ) (w t u : List ℕ) → Bytes t → Bytes u → q < length w → frames q w t ≡ frames q w u → t ≡ u

-- whatever is put back converts to the frames handed in
unfoldable pub RestoredConverted : Type 0
RestoredConverted = (q : ℕ) (w gs : List ℕ) → is_conversion q w gs ≡ true → frames q w (restored q w gs) ≡ gs

-- and it is bytes
unfoldable pub RestoredBytes : Type 0
RestoredBytes = (q : ℕ) (w gs : List ℕ) → Bytes w → is_conversion q w gs ≡ true → Bytes (restored q w gs)
