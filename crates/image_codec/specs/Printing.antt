-- Bytes on their way to a sink, of which the last still stand in a page.
use Rattle.std.specs.Prelude.{◌≡◌, ◌≤◌, ℕ, List, ◌++◌, Option, Result, OnOk, OnErr}
use Rattle.std.specs.Io.KnownBytes.{Appends}
use Rattle.usb_base.specs.Outside.{AppendsPrefix, one_more}

-- A piece went into a page that held `held` and holds `holds` now: what went out to the sink, and what the page holds,
-- is what it held and then the piece.
pub record Passes (old new : Option (List ℕ)) (held holds piece : List ℕ) : Type 0 where
  pub out : List ℕ
  pub written : Appends old new out
  pub split : out ++ holds ≡ held ++ piece

-- A writer to such a page. Its `Ok`: its bytes passed and no write failed; its `Failed`: a front part of what the page held and of its
-- bytes went out, and one write failed, the last.
pub record PrintsOn {K T E : Type 0} (written : K → Option (List ℕ)) (faults : K → ℕ) (old new : K) (held holds : List ℕ) (result : Result T E)
    (bytes : List ℕ) : Type 0 where
  pub ok : OnOk result (Passes (written old) (written new) held holds bytes)
  pub err : OnErr result (AppendsPrefix (written old) (written new) (held ++ bytes))
  pub stays : OnOk result (faults new ≡ faults old)
  pub rises : OnErr result (faults new ≡ one_more (faults old))
  pub counted : faults old ≤ faults new
