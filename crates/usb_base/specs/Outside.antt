-- What sources and sinks of bytes promise about their counts of faults, and what a writer to a sink promises.
--     last_count             the last value of a count of 64 bits
--     one_more n             the count after one more fault; it stands at its last value once it is there
--     Rose before after      the count rose, or stands at its last value
--     AppendsPrefix a b bs   known bytes a grow to b by a front part of bs
--     Prints ..              a writer's `Ok`: its bytes are appended and no write failed; its `Failed`: a front part of them is appended
--                            and one write failed, the last
use Rattle.std.specs.Prelude.{◌≡◌, ℕ, ◌<◌, ◌≤◌, ◌⊎◌, List, take, Option, Result, OnOk, OnErr, ◌+◌, min}
use Rattle.std.specs.Io.KnownBytes.{Appends}

abbrev pub last_count : ℕ
last_count = 18446744073709551615

abbrev pub one_more : ℕ → ℕ
one_more n = min (n + 1) last_count

abbrev pub Rose : ℕ → ℕ → Type 0
Rose before after = (before < after) ⊎ (last_count ≤ after)

abbrev pub AppendsPrefix : Option (List ℕ) → Option (List ℕ) → List ℕ → Type 0
AppendsPrefix old new bs = (n : ℕ) × Appends old new (take n bs)

-- `written` tells the bytes of a sink where they are known, `faults` its count; `old` and `new` are the sink before and after
pub record Prints {K T E : Type 0} (written : K → Option (List ℕ)) (faults : K → ℕ) (old new : K) (result : Result T E) (bytes : List ℕ) : Type 0 where
  pub ok : OnOk result (Appends (written old) (written new) bytes)
  pub err : OnErr result (AppendsPrefix (written old) (written new) bytes)
  pub stays : OnOk result (faults new ≡ faults old)
  pub rises : OnErr result (faults new ≡ one_more (faults old))
  pub counted : faults old ≤ faults new
