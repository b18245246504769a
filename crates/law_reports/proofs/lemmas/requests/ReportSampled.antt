-- What the lines of the sample's driver tell.
use Rattle.std.proofs.Common.{[], ◌∷◌, refl, arith}
use Rattle.law_devices.specs.ring_requests.Samples.{asked}
use Rattle.claims_world.specs.Requests.{no_windows}
use Rattle.law_reports.specs.requests.driver_requests.Samples.{driver}
use Rattle.law_reports.specs.requests.TransferSamples.{first_acted}
use Rattle.law_reports.specs.requests.Telling.{IsTelling}
use Rattle.law_reports.specs.requests.ReportSamples.{name, whole, told, stalled}

pub none_told : IsTelling driver asked 0 name whole no_windows [] (0 ∷ 1 ∷ [])
none_told = record { numbers = refl; told = record { told = tt; rest = refl; stored = tt }; wait = refl }

pub first_told : IsTelling told asked 0 name whole first_acted (0 ∷ []) (1 ∷ [])
first_told = record { numbers = refl; told = record { told = ((refl, refl), tt); rest = refl; stored = (omega arith, tt) }; wait = refl }

pub both_told : IsTelling stalled asked 0 name whole first_acted (0 ∷ 1 ∷ []) []
both_told = record { numbers = refl; told = record { told = ((refl, refl), (([], refl), tt)); rest = refl; stored = (omega arith, (omega arith, tt)) }; wait = refl }
