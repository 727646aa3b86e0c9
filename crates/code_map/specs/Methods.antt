-- The methods that HTTP and CoAP share (RFC 7252 section 10.2).
use Rattle.std.specs.Prelude.{ℕ, List, [], ◌∷◌, Option, Some, None, codes, Bool, true, false, if◌then◌else◌}
use Rattle.std.specs.Str.{bytes_eq}
use Rattle.code_map.specs.declared.method.Method.{Method}
use Rattle.code_map.specs.declared.method.Method.TheVariants.{Get, Head, Post, Put, Delete}

-- The names, which are case-sensitive (RFC 9110 section 9.1).
abbrev pub name_of : Method → List ℕ
name_of Get = codes "GET"
name_of Head = codes "HEAD"
name_of Post = codes "POST"
name_of Put = codes "PUT"
name_of Delete = codes "DELETE"

abbrev pub methods : List Method
methods = Get ∷ Head ∷ Post ∷ Put ∷ Delete ∷ []

-- The one of these methods that has the name.
abbrev pub named_in : List Method → List ℕ → Option Method
named_in [] name = None
named_in (m ∷ ms) name = if bytes_eq name (name_of m) then Some m else named_in ms name

abbrev pub method_named : List ℕ → Option Method
method_named name = named_in methods name

-- The codes of requests, class 0 (RFC 7252 section 12.1.1). HEAD is asked as GET.
abbrev pub request_code : Method → ℕ
request_code Get = 1
request_code Head = 1
request_code Post = 2
request_code Put = 3
request_code Delete = 4

-- The methods that ask for a change: those that aren't safe (RFC 9110 section 9.2.1).
abbrev pub writes : Method → Bool
writes Get = false
writes Head = false
writes Post = true
writes Put = true
writes Delete = true
