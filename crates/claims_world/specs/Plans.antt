-- What is placed below a translator in a frame, and what is laid for it in each microframe (USB 2.0, 11.18.1 and 11.18.4).
--     laid p k u              the byte-times that are laid for the key k in the microframes before u
use Rattle.std.specs.Prelude.{ℕ, ◌-◌, ◌*◌, min, List}
use Rattle.hub_keys.specs.declared.key.Key.{Key}

pub record Plan : Type 0 where
  pub keys : List Key  -- the endpoint halves that are placed in the frame
  pub first : Key → ℕ  -- the microframe of the frame in which its first start-split is
  pub times : Key → ℕ  -- its byte-times

-- 188 in the first microframe and in each that follows, and the rest in the last
abbrev pub laid : Plan → Key → ℕ → ℕ
laid p k u = min (p.times k) (188 * (u - p.first k))
