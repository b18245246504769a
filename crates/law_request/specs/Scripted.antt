-- The endpoint of a scripted device: its replies are those of its script.
use Rattle.std.specs.Prelude.{ℕ, List}
use Rattle.endpoint_script.specs.Controlling.{place_in, reply_at}
use Rattle.endpoint_script.specs.declared.control_endpoint.KnownRequest.{KnownRequest}
use Rattle.law_request.specs.Host.{Endpoint}

abbrev pub scripted : ℕ → ℕ → ℕ → List KnownRequest → Endpoint
scripted addr num max requests = record { addr = addr; num = num; max = max; known = λ setup. reply_at requests (place_in requests setup) }
