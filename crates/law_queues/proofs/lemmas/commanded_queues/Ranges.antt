-- The fields of a new queue head.
use Rattle.std.proofs.Common.{◌≡◌, ℕ, ◌<◌, if◌then◌else◌, unwrap_or, ap, refl, arith}
use Rattle.usb_base.specs.declared.packets.Speed.{Speed}
use Rattle.drv_table.specs.Words.{is_high, speed_field}
use Rattle.law_queues.specs.commanded_queues.Accepted.{NewHeadIsInRange}

pub new_head_range : NewHeadIsInRange
new_head_range x link dummy is fits most =
    let naks : ◌≡◌ {A = ℕ} (if is_high x.speed then 4 else 0) 4 = ap (λ (s : Speed). if is_high s then 4 else 0) is.speed in
    let hub : ◌≡◌ {A = ℕ} (if is_high x.speed then 0 else unwrap_or x.hub 0) 0 = ap (λ (s : Speed). if is_high s then 0 else unwrap_or x.hub 0) is.speed in
    let port : ◌≡◌ {A = ℕ} (if is_high x.speed then 0 else x.port) 0 = ap (λ (s : Speed). if is_high s then 0 else x.port) is.speed in
    let speed : speed_field x.speed ≡ 2 = ap speed_field is.speed in
    let addr : x.name.addr < 128 = fits.0 in
    let num : x.name.num < 16 = fits.1 in (
      (omega arith, (omega arith, tt)),
      (
        (omega (arith, naks), (most, (omega (arith, speed), (num, (addr, tt))))),
        (
          (omega arith, (omega (arith, port), (omega (arith, hub), (omega arith, (omega arith, tt))))),
          (
            (refl, tt),
            (
              (omega arith, tt),
              (
                (refl, (omega arith, tt)),
                (
                  (omega arith, (omega arith, (omega arith, (omega arith, tt)))),
                  (
                    (omega arith, (omega arith, tt)),
                    (
                      (omega arith, (omega arith, tt)),
                      ((omega arith, (omega arith, (omega arith, tt))), ((omega arith, tt), ((omega arith, tt), tt))),
                    ),
                  ),
                ),
              ),
            ),
          ),
        ),
      ),
    )
