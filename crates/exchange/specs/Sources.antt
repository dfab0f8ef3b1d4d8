-- Which of two volumes has the bytes that are fetched.
use Rattle.std.specs.Prelude.{ℕ, cond, List, eqb}
use Rattle.lookup.specs.Fetch.{whichever, fetch_fault}
use Rattle.exchange.specs.declared.SourceNumbers.{SourceNumbers}

-- 0: the first volume has the number, 1: the second; on refusal 0
unfoldable pub source_of : (first second : List ℕ) (number offset len : ℕ) → SourceNumbers
source_of first second number offset len = record {
  refusal = fetch_fault first second number offset len;
  text = 0;
  start = 0;
  which = cond (eqb (fetch_fault first second number offset len) 0) (whichever first second number 0 1 0) 0;
}
