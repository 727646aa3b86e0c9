-- When the replies to an exchange are a whole response, and which.
use Rattle.std.specs.Prelude.{ℕ, Bool, false, ◌&&◌, List, [], ◌∷◌, length, Option, Some, None, option_map, is_some, ◌==◌, if◌then◌else◌}
use Rattle.std.specs.List.{list_all}
use Rattle.std.specs.Str.{bytes_eq}
use Rattle.coap_codec.specs.Spelling.{Content}
use Rattle.coap_codec.specs.Recognition.{is_final, is_forwardable, value_of, values_of}
use Rattle.coap_codec.specs.Values.{uint}
use Rattle.blockwise.specs.Downloads.{given, nothing}
use Rattle.blockwise.specs.Uploads.{UploadValue, begun, answer_to, next_of}
use Rattle.blockwise.specs.declared.upload.Answered.{Answered}
use Rattle.blockwise.specs.declared.upload.Answered.TheVariants.{Next, Last, Wrong}
use Rattle.blockwise.specs.Joins.{payloads}
use Rattle.ask_model.specs.Requests.{CoapRequest}
pub use Rattle.resp_cache.specs.declared.response.Response.{Response}

-- A reader may be told what it says: its options may be passed over, and its code ends a request.
abbrev pub is_tellable : Content → Bool
is_tellable m = is_forwardable m.options && is_final m

-- what a response says (RFC 7252 section 5.10)
abbrev pub response_of : Content → Response
response_of m =
    record {
      code = m.code;
      format = option_map uint (value_of 12 m);
      etag = value_of 4 m;
      max_age = option_map uint (value_of 14 m);
      location = record { path = values_of 8 m; query = values_of 20 m };
      body = m.payload;
    }

-- 2.03 Valid
abbrev pub valid : ℕ
valid = 67

abbrev pub has_tag : List ℕ → Option (List ℕ) → Bool
has_tag tag None = false
has_tag tag (Some other) = bytes_eq other tag

-- It says that what has this ETag is valid still: it is a 2.03 with that ETag (RFC 7252 section
-- 5.9.1.3).
abbrev pub confirms : Option (List ℕ) → Content → Bool
confirms None m = false
confirms (Some tag) m =
    is_forwardable m.options && ((m.code == valid) && has_tag tag (value_of 4 m))

-- By that the response is renewed: its Max-Age is that of the 2.03, and so is its format where the
-- 2.03 has one.
abbrev pub first_some : Option ℕ → Option ℕ → Option ℕ
first_some None other = other
first_some (Some n) other = Some n

abbrev pub renewed_response : Response → Content → Response
renewed_response w m =
    record w {
      format = first_some (option_map uint (value_of 12 m)) w.format;
      max_age = option_map uint (value_of 14 m);
    }

-- What pieces of a representation say together: the last one, with the Max-Age of the first, since
-- the whole is as old as that, and with the body that they join to.
abbrev pub last_of : Content → List Content → Content
last_of m [] = m
last_of m (n ∷ ms) = last_of n ms

abbrev pub joined : Content → List Content → Response
joined m ms =
    record (response_of (last_of m ms)) {
      max_age = (response_of m).max_age;
      body = payloads (m ∷ ms);
    }

-- The replies to a GET (method 1) are a whole response where they are the pieces of one
-- representation, each one after the other, up to the last (RFC 7959 section 2.4). A Block1 has no
-- meaning there.
abbrev pub whole_fetched : Content → List Content → Option Response
whole_fetched m ms =
    if list_all is_tellable (m ∷ ms) && is_some (given nothing (m ∷ ms))
    then Some (joined m ms) else None

-- Those to any other request are, where by each but the last a piece of its body is taken, and the
-- last is the answer to it: to its last piece, or an error (RFC 7959 section 2.3).
abbrev pub whole_by : Answered → Content → List Content → Option Response → Option Response
whole_by Next m ms later = later
whole_by Last m [] later = Some (response_of m)
whole_by Last m (n ∷ ms) later = None
whole_by Wrong m ms later = None

abbrev pub whole_given : UploadValue → List Content → Option Response
whole_given u [] = None
whole_given u (m ∷ ms) =
    if is_forwardable m.options then whole_by (answer_to u m) m ms (whole_given (next_of u m) ms)
    else None

-- the whole response that the replies to a request are, in order
abbrev pub whole_of : CoapRequest → List Content → Option Response
whole_of q [] = None
whole_of q (m ∷ ms) =
    if q.method == 1 then whole_fetched m ms else whole_given (begun (length q.body) 6) (m ∷ ms)
