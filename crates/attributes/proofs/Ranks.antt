-- Of two kinds the lesser, in the order of their list, is the one with the lower rank.
-- Assumes nothing.
use mathlib.Core.Path.{◌≡◌}
use native.Mathlib.Omega.{arith}
use Rattle.std.specs.Ordering.{ord_min}
use Rattle.bits.specs.Bits.{pick}
use Rattle.attributes.specs.Attributes.{device_rank, combine_device, cache_rank, combine_cache, share_rank, combine_shareability}
use Rattle.attributes.specs.declared.DeviceType.{DeviceType}
use Rattle.attributes.specs.declared.Cacheability.{Cacheability}
use Rattle.attributes.specs.declared.Shareability.{Shareability}
use Rattle.attributes.specs.contracts.DeviceTypeOrd.TheImpl as OfDevice
use Rattle.attributes.specs.contracts.CacheabilityOrd.TheImpl as OfCache
use Rattle.attributes.specs.contracts.ShareabilityOrd.TheImpl as OfShare

pub lesser_device : (a b : DeviceType) → ord_min OfDevice.cmp-value.it a b ≡ combine_device a b
unfolding pick device_rank
lesser_device a b = grind arith

pub lesser_cache : (a b : Cacheability) → ord_min OfCache.cmp-value.it a b ≡ combine_cache a b
unfolding pick cache_rank
lesser_cache a b = grind arith

pub lesser_share : (a b : Shareability) → ord_min OfShare.cmp-value.it a b ≡ combine_shareability a b
unfolding pick share_rank
lesser_share a b = grind arith
