-- The settings that a script may change, and what they change.
use Rattle.std.specs.Prelude.{ℕ, ◌≤◌, pos}
use Rattle.cy_event.specs.declared.limits.Limits.{Limits}
use Rattle.cy_settings.specs.Limits.{limit_greatest, limit_least}
use Rattle.cy_settings.specs.declared.limit.Limit.{Limit}
use Rattle.cy_settings.specs.declared.limit.Limit.TheVariants.{MaxConnections, MaxHttpHeaderSize, MaxHeaderCount, MaxKeepAliveRequests, ConnectionTimeout, AsyncTimeout, MaxSwallowSize, MaxTrailerSize}

-- the value is within the setting's range
abbrev pub IsInRange : Limit → ℕ → Type 0
IsInRange setting value = (limit_least setting ≤ value) × (value ≤ limit_greatest setting)

-- limits with another value of the setting
abbrev pub with_setting : Limit → ℕ → Limits → Limits
with_setting MaxConnections value limits = record limits { max_connections = value }
with_setting MaxHttpHeaderSize value limits = record limits { max_head = value }
with_setting MaxHeaderCount value limits = record limits { max_fields = value }
with_setting MaxKeepAliveRequests value limits = record limits { max_keep_alive = pos value }
with_setting ConnectionTimeout value limits = record limits { connection_timeout = value }
with_setting AsyncTimeout value limits = record limits { async_timeout = value }
with_setting MaxSwallowSize value limits = record limits { max_swallow = value }
with_setting MaxTrailerSize value limits = record limits { max_trailer = value }
