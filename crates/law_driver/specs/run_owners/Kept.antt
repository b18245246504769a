-- What holds of the driver's content at each moment.
use Rattle.std.specs.Prelude.{ℕ, ◌==◌, if◌then◌else◌}
use Rattle.claims_driver.specs.Owners.{Owner, FrameList, Head}

-- the owners when the driver was built
abbrev pub opening_owner : ℕ → Owner
opening_owner b = if b == 0 then FrameList else Head
