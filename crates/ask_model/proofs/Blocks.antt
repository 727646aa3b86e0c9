-- A message for a block has at most one option more than the request, and at most its body.
use Rattle.std.proofs.Common.{◌≡◌, ℕ, List, ◌++◌, Option, Some, None, option_map, refl, ap, subst, ◌∙◌}
use Rattle.std.proofs.lemmas.List.{append-nil}
use Rattle.coap_codec.specs.Spelling.{Entry, Content, Spells}
use Rattle.coap_codec.specs.declared.block.Block.{Block}
use Rattle.coap_codec.specs.declared.message.MsgType.TheVariants.{Con}
use Rattle.ask_model.specs.Requests.{CoapRequest, optional, request_options, request_message, block_option, block_value, carried_by, block_message}
use Rattle.ask_model.specs.Datagrams.{block_or_first}

abbrev pub blocks : ℕ → Option Block → List Entry
blocks method block = optional (block_option method) (option_map block_value block)

abbrev pub asked : CoapRequest → Option Block → ℕ → List ℕ → Content
asked q block mid token =
    record (request_message q mid token) {
      options = request_options q ++ blocks q.method block;
      payload = carried_by q.method block q.body;
    }

pub block_message_as : (q : CoapRequest) (block : Option Block) (mid : ℕ) (token : List ℕ) → block_message q block mid token ≡ asked q block mid token
block_message_as q None mid token = rw (append-nil (request_options q)) refl
block_message_as q (Some b) mid token = refl

-- the message as it is written
abbrev pub written : ℕ → ℕ → List ℕ → List Entry → List ℕ → Content
written code mid token os payload =
    record { kind = Con; code = code; mid = mid; token = token; options = os; payload = payload }

pub spelled_asking : (q : CoapRequest) (block : Option Block) (mid : ℕ) (token : List ℕ) (code : ℕ) (os : List Entry) (payload bytes : List ℕ) → code ≡ q.method → os ≡ request_options q ++ blocks q.method block → payload ≡ carried_by q.method block q.body → Spells (written code mid token os payload) bytes → Spells (block_message q block mid token) bytes
spelled_asking q block mid token code os payload bytes same options body s =
    let m : written code mid token os payload ≡ asked q block mid token = rw (same, options, body) refl in
    rw (block_message_as q block mid token) (subst (λ (n : Content). Spells n bytes) m s)

-- the same, of the block that is named or the first
pub spelled_named : (q : CoapRequest) (block named : Option Block) (mid : ℕ) (token : List ℕ) (code : ℕ) (os : List Entry) (body payload bytes : List ℕ)
    → code ≡ q.method → body ≡ q.body → named ≡ block_or_first q block → os ≡ request_options q ++ blocks code named
    → payload ≡ carried_by code named body → Spells (written code mid token os payload) bytes
    → Spells (block_message q (block_or_first q block) mid token) bytes
spelled_named q block named mid token code os body payload bytes same all is options carried s =
    subst (λ (b : Option Block). Spells (block_message q b mid token) bytes) is
    (spelled_asking q named mid token code os payload bytes same
    (options ∙ ap (λ (n : ℕ). request_options q ++ blocks n named) same)
    (carried ∙ (ap (λ (n : ℕ). carried_by n named body) same ∙ ap (carried_by q.method named) all)) s)
