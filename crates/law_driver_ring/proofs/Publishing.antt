-- The stores of a qTD that is published, one by one.
use Rattle.std.proofs.Common.{◌≡◌, ℕ, zero, suc, ◌*◌, ◌<◌, set, slice_index, refl, arith}
use Rattle.law_driver_ring.proofs.Common.{sound_at, unnamed_at, places_below, partly_idle}
use Rattle.qh_qtd.specs.declared.qtd.Qtd.{Qtd}
use Rattle.qh_qtd.specs.Qtd.{qtd_words, IsQtdInRange}
use Rattle.drv_table.specs.Commands.{advance}
use Rattle.law_driver_ring.proofs.Storing.{element_store_drives}
use Rattle.law_driver_ring.proofs.Viewing.{advance_views}
use Rattle.law_driver_ring.specs.Published.{partly, place_in, PublishStoreDrives}
use Rattle.law_driver_ring.proofs.LendOpening.{dummy_range}

-- ---- words

stored : (t : Qtd) (k : ℕ) → k < 8 → qtd_words (partly t (suc k)) ≡ set (qtd_words (partly t k)) (place_in k) (slice_index (qtd_words t) (place_in k))
unfolding qtd_words
stored t (suc (suc (suc (suc (suc (suc (suc (suc k)))))))) below = absurd (omega (arith, below))
stored t _ below = refl

ranged : (t : Qtd) (k : ℕ) → IsQtdInRange t → IsQtdInRange (partly t k)
ranged t zero r = dummy_range
ranged t (suc zero) r = (r.0, dummy_range.1)
ranged t (suc (suc zero)) r = (r.0, (r.1.0, dummy_range.1.1))
ranged t (suc (suc (suc zero))) r = (r.0, (r.1.0, (dummy_range.1.1.0, (r.1.1.1.0, dummy_range.1.1.1.1))))
ranged t (suc (suc (suc (suc zero)))) r = (r.0, (r.1.0, (dummy_range.1.1.0, (r.1.1.1.0, (r.1.1.1.1.0, dummy_range.1.1.1.1.1)))))
ranged t (suc (suc (suc (suc (suc zero))))) r = (r.0, (r.1.0, (dummy_range.1.1.0, (r.1.1.1.0, (r.1.1.1.1.0, (r.1.1.1.1.1.0, dummy_range.1.1.1.1.1.1))))))
ranged t (suc (suc (suc (suc (suc (suc zero)))))) r = (r.0, (r.1.0, (dummy_range.1.1.0, (r.1.1.1.0, (r.1.1.1.1.0, (r.1.1.1.1.1.0, (r.1.1.1.1.1.1.0, dummy_range.1.1.1.1.1.1.1)))))))
ranged t (suc (suc (suc (suc (suc (suc (suc zero))))))) r = (r.0, (r.1.0, (dummy_range.1.1.0, r.1.1.1)))
ranged t (suc (suc (suc (suc (suc (suc (suc (suc k)))))))) r = r

-- ---- a store

pub publish_store_drives : PublishStoreDrives
publish_store_drives base member parts hand w p n b t k below drives can here range may =
    element_store_drives base member parts hand w p.registers p.memory p.driver (advance p.driver) b n (32 * b) (partly t k) (partly t (suc k)) (place_in k) (slice_index (qtd_words t) (place_in k)) drives (advance_views p.driver) can here
    (partly_idle t k below) (places_below k below) (stored t k below) (ranged t (suc k) range)
    (λ on. let m = may on in (sound_at (parts n) t (suc k) m.sound, unnamed_at (parts n) (32 * b) t (suc k) (let low = range.1.1.1.0.1.0 in omega (arith, low)) m.own m.blank))
