-- The job file (document 01, "The job file"): its lines, what they give, and its refusals in their order. These are definitions.
use Rattle.std.specs.Prelude.{Bool, true, ◌&&◌, not, List, [], ◌∷◌, ◌++◌, ℕ, zero, suc, ◌+◌, ◌*◌, ltb, eqb, length, get_or}
use Rattle.answers.specs.Refusals.{Refusal, refuse, first_of, job_refusals}
use Rattle.hex_digits.specs.Hex.{digits, all_digits, number}
use Rattle.hex_lines.specs.Lines.{line_end, line, lines}

-- the first line has ten digits: edition 01, m in two, q in two, n in four
unfoldable pub first_line : (m q n : ℕ) → List ℕ
first_line m q n = digits 2 1 ++ digits 2 m ++ digits 2 q ++ line 4 n

-- the job file of a hold offset (hold place) q, a pattern (motif) and a text (chain): the first line, then m lines of two digits, then n
unfoldable pub job_file : (q : ℕ) → (w t : List ℕ) → List ℕ
job_file q w t = first_line (length w) q (length t) ++ lines 2 w ++ lines 2 t

-- the length is 11 + 3 × m + 3 × n bytes
abbrev pub file_length : (m n : ℕ) → ℕ
file_length m n = 11 + 3 * m + 3 * n

-- what a file's first line gives: the edition, m, q and n
unfoldable pub edition_in : (file : List ℕ) → ℕ
edition_in bs = number 2 0 bs

unfoldable pub m_in : (file : List ℕ) → ℕ
m_in bs = number 2 2 bs

unfoldable pub q_in : (file : List ℕ) → ℕ
q_in bs = number 2 4 bs

unfoldable pub n_in : (file : List ℕ) → ℕ
n_in bs = number 4 6 bs

-- the bytes (cards) that so many lines of a file, from a place on, give
unfoldable pub bytes_in : (count at : ℕ) → (file : List ℕ) → List ℕ
bytes_in zero a bs = []
bytes_in (suc n) a bs = number 2 a bs ∷ bytes_in n (a + 3) bs

-- the pattern (motif) and the text (chain) of a file
unfoldable pub pattern_in : (file : List ℕ) → List ℕ
pattern_in bs = bytes_in (m_in bs) 11 bs

unfoldable pub text_in : (file : List ℕ) → List ℕ
text_in bs = bytes_in (n_in bs) (11 + 3 * m_in bs) bs

-- whether a line stands at a place of a file: so many digits and the line end
unfoldable pub good_line : (count at : ℕ) → (file : List ℕ) → Bool
good_line n a bs = all_digits n a bs && eqb (get_or bs (a + n) 0) line_end

-- whether so many lines of two digits stand in a file from a place on
unfoldable pub good_lines : (count at : ℕ) → (file : List ℕ) → Bool
good_lines zero a bs = true
good_lines (suc n) a bs = good_line 2 a bs && good_lines n (a + 3) bs

-- the refusals of a file, in their order: 1 (under 11 bytes), 2 in the first line, 3, 4, 5, 6, 1 (length), 2 in the rest
unfoldable pub file_refusals : (file : List ℕ) → List Refusal
file_refusals bs =
    refuse 1 (ltb (length bs) 11)
    ∷ refuse 2 (not (good_line 10 0 bs))
    ∷ refuse 3 (not (eqb (edition_in bs) 1))
    ∷ job_refusals (m_in bs) (q_in bs) (n_in bs)
    ++ (refuse 1 (not (eqb (length bs) (file_length (m_in bs) (n_in bs)))) ∷ refuse 2 (not (good_lines (m_in bs + n_in bs) 11 bs)) ∷ [])

-- the number by which a file is turned away, with buffers that are long enough; 0 if it is taken
unfoldable pub file_status : (file : List ℕ) → ℕ
file_status bs = first_of (file_refusals bs)
