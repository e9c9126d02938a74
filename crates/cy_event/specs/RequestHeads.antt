-- The head of a request as a connector keeps it, beside the path and the query that its target names.
use Rattle.std.specs.Prelude.{ℕ, ◌+◌, Bool, true, false, List, [], ◌∷◌, ◌++◌, length, Option, Some, None}
use Rattle.cy_event.specs.Heads.{Field, Head}

-- a head, the path and the query of its target (RFC 3986, sections 3.3 and 3.4), and how many bytes of the
-- room for fields are used
pub record RequestParts : Type 0 where
  pub head : Head
  pub path : List ℕ
  pub query : Option (List ℕ)
  pub field_size : ℕ

-- nothing was read yet
abbrev pub no_request : RequestParts
no_request = record {
  head = record { method = []; target = []; minor = 0; fields = [] };
  path = [];
  query = None;
  field_size = 0;
}

-- these three in the head's first line, and all else as it is
abbrev pub with_request_line : List ℕ → List ℕ → ℕ → RequestParts → RequestParts
with_request_line method target minor parts = record parts {
  head = record { method = method; target = target; minor = minor; fields = parts.head.fields };
}

-- one field more, at the end
abbrev pub with_last_field : Field → RequestParts → RequestParts
with_last_field field parts = record parts {
  head = record {
    method = parts.head.method;
    target = parts.head.target;
    minor = parts.head.minor;
    fields = parts.head.fields ++ field ∷ [];
  };
  field_size = parts.field_size + length field.name + length field.value;
}

-- the query of a target that has one
abbrev pub query_of : Bool → List ℕ → Option (List ℕ)
query_of true bytes = Some bytes
query_of false bytes = None
