-- The settings that limit what a connector does: their names, defaults and ranges, and the limits that they make.
use Rattle.std.specs.Prelude.{◌≡◌, ℕ, ℤ, pos, negsuc, Bool, true, false, ◌&&◌, ◌==◌, nat_le, List, [], ◌∷◌, codes, Option, find, bytes_eq}
use Rattle.cy_settings.specs.declared.limit.Limit.{Limit}
use Rattle.cy_settings.specs.declared.limit.Limit.TheVariants.{MaxConnections, MaxHttpHeaderSize, MaxHeaderCount, MaxKeepAliveRequests, ConnectionTimeout, AsyncTimeout, MaxSwallowSize, MaxTrailerSize}
use Rattle.cy_settings.specs.declared.limits.Limits.{Limits}

-- all of them
abbrev pub limits : List Limit
limits =
    MaxConnections ∷ MaxHttpHeaderSize ∷ MaxHeaderCount ∷ MaxKeepAliveRequests
    ∷ ConnectionTimeout ∷ AsyncTimeout ∷ MaxSwallowSize ∷ MaxTrailerSize ∷ []

abbrev pub limit_name : Limit → List ℕ
limit_name MaxConnections = codes "maxConnections"
limit_name MaxHttpHeaderSize = codes "maxHttpHeaderSize"
limit_name MaxHeaderCount = codes "maxHeaderCount"
limit_name MaxKeepAliveRequests = codes "maxKeepAliveRequests"
limit_name ConnectionTimeout = codes "connectionTimeout"
limit_name AsyncTimeout = codes "asyncTimeout"
limit_name MaxSwallowSize = codes "maxSwallowSize"
limit_name MaxTrailerSize = codes "maxTrailerSize"

-- the limit of a name
abbrev pub limit_named : List ℕ → Option Limit
limit_named name = find (λ limit. bytes_eq (limit_name limit) name) limits

-- its value where nobody sets it
abbrev pub limit_default : Limit → ℕ
limit_default MaxConnections = 256
limit_default MaxHttpHeaderSize = 8192
limit_default MaxHeaderCount = 100
limit_default MaxKeepAliveRequests = 100
limit_default ConnectionTimeout = 20000
limit_default AsyncTimeout = 30000
limit_default MaxSwallowSize = 2097152
limit_default MaxTrailerSize = 8192

abbrev pub limit_least : Limit → ℕ
limit_least MaxConnections = 1
limit_least MaxHttpHeaderSize = 256
limit_least MaxHeaderCount = 1
limit_least MaxKeepAliveRequests = 1
limit_least ConnectionTimeout = 1
limit_least AsyncTimeout = 0
limit_least MaxSwallowSize = 0
limit_least MaxTrailerSize = 2

abbrev pub limit_greatest : Limit → ℕ
limit_greatest MaxConnections = 8192
limit_greatest MaxHttpHeaderSize = 8192
limit_greatest MaxHeaderCount = 100
limit_greatest MaxKeepAliveRequests = 2147483647
limit_greatest ConnectionTimeout = 86400000
limit_greatest AsyncTimeout = 86400000
limit_greatest MaxSwallowSize = 2147483647
limit_greatest MaxTrailerSize = 8192

-- it may also be -1, which is no limit
abbrev pub can_be_absent : Limit → Bool
can_be_absent MaxKeepAliveRequests = true
can_be_absent _ = false

-- ---- limits

-- the number, or 0 for one below it
abbrev pub number : ℤ → ℕ
number (pos n) = n
number (negsuc n) = 0

-- limits of which each has the value that it is given, for so many components
abbrev pub limits_of : (Limit → ℤ) → ℕ → Limits
limits_of value parts = record {
  max_connections = number (value MaxConnections);
  max_head = number (value MaxHttpHeaderSize);
  max_fields = number (value MaxHeaderCount);
  max_keep_alive = value MaxKeepAliveRequests;
  connection_timeout = number (value ConnectionTimeout);
  async_timeout = number (value AsyncTimeout);
  max_swallow = number (value MaxSwallowSize);
  max_trailer = number (value MaxTrailerSize);
  parts = parts;
}

-- the value of a limit
abbrev pub limit_in : Limits → Limit → ℤ
limit_in limits MaxConnections = pos limits.max_connections
limit_in limits MaxHttpHeaderSize = pos limits.max_head
limit_in limits MaxHeaderCount = pos limits.max_fields
limit_in limits MaxKeepAliveRequests = limits.max_keep_alive
limit_in limits ConnectionTimeout = pos limits.connection_timeout
limit_in limits AsyncTimeout = pos limits.async_timeout
limit_in limits MaxSwallowSize = pos limits.max_swallow
limit_in limits MaxTrailerSize = pos limits.max_trailer

-- the defaults, for so many components
abbrev pub standard : ℕ → Limits
standard parts = limits_of (λ limit. pos (limit_default limit)) parts
