-- The answers of the calls (document 01, "Turned away, by who can cause it"; document 02, "Write out the period and the bound"): what a call does not
-- work out is 0 in its answer. These are definitions.
use Rattle.std.specs.Prelude.{ℕ, zero, suc}
use Rattle.answers.specs.declared.Answer.{Answer}

-- an answer with none of finds, looks, holes, p and the bound: its status, and zeros
abbrev pub status_only : (status : ℕ) → Answer
status_only s = record { status = s; occurrences = 0; comparisons = 0; ones = 0; period = 0; bound = 0 }

-- what preparing answers where it is done: only p
abbrev pub prepared : (p : ℕ) → Answer
prepared p = record { status = 0; occurrences = 0; comparisons = 0; ones = 0; period = p; bound = 0 }

-- what searching answers where it is done: h, C, p and the bound
abbrev pub searched : (h C p bound : ℕ) → Answer
searched h C p b = record { status = 0; occurrences = h; comparisons = C; ones = 0; period = p; bound = b }

-- what converting answers where it is done: what its search answers, and the holes
abbrev pub converted : (search : Answer) → (ones : ℕ) → Answer
converted a o =
    record {
      status = a.status;
      occurrences = a.occurrences;
      comparisons = a.comparisons;
      ones = o;
      period = a.period;
      bound = a.bound;
    }

-- what counting answers where it is done: only the holes
abbrev pub counted : (ones : ℕ) → Answer
counted o = record { status = 0; occurrences = 0; comparisons = 0; ones = o; period = 0; bound = 0 }

-- what a call answers or leaves: the first where its status is 0 (done), the second where it is refused
unfoldable pub if_done : {A : Type 0} → (status : ℕ) → (done refused : A) → A
if_done zero d r = d
if_done (suc s) d r = r

-- what a call answers: what it has worked out where it is done, and else the refusal and zeros elsewhere
unfoldable pub answered : (status : ℕ) → (done : Answer) → Answer
answered s done = if_done s done (status_only s)
