-- The last of the replies to a POST is its response.
use Rattle.std.proofs.Common.{◌≡◌, ℕ, suc, ◌<◌, ◌≤◌, ◌/◌, Bool, true, false, ◌&&◌, ◌||◌, cond, eqb, inl, inr, List, [], ◌∷◌, ◌++◌, length, Option, Some, None, refl, sym, ap, subst, ◌∙◌, arith}
use Rattle.std.specs.Prelude.{not}
use Rattle.std.proofs.lemmas.Bool.{and_parts, false≢true}
use Rattle.std.proofs.lemmas.Bool.Decides.{eqb_tells}
use Rattle.coap_codec.specs.Spelling.{Content}
use Rattle.coap_codec.specs.Recognition.{class_of, is_final, is_forwardable}
use Rattle.coap_codec.specs.declared.block.Block.{Block}
use Rattle.blockwise.specs.Reading.{answers_piece}
use Rattle.blockwise.specs.Uploads.{UploadValue, answer_to, if_final, is_last, next_num, next_of}
use Rattle.blockwise.specs.declared.upload.Answered.{Answered}
use Rattle.blockwise.specs.declared.upload.Answered.TheVariants.{Next, Last, Wrong}
use Rattle.ask_model.specs.Requests.{CoapRequest}
use Rattle.journal_book.specs.Entries.{Written}
use Rattle.history_laws.specs.Progress.{Point, Given}
use Rattle.history_laws.specs.Responses.{Response, response_of, whole_by, whole_given}
use Rattle.history_laws.proofs.CallerLemmas.{none-some, some-is}
use Rattle.history_claims.specs.Headline.{AreHeardFor, IsHeardFor}

-- the reply that tells the response: the last
pub record IsLastReply (h : List Written) (k : ℕ) (q : CoapRequest) (js : List ℕ) (w : Response) : Type 0 where
  pub since : ℕ
  pub not_before : k ≤ since
  pub block : Option Block
  pub earlier : List ℕ
  pub number : ℕ
  pub are : js ≡ earlier ++ number ∷ []
  pub message : Content
  pub heard : IsHeardFor h since q block number message
  pub is : w.code ≡ message.code
  pub ends : message.code ≡ 95 → ⊥

-- 2.31 ends nothing
final-ends : (m : Content) → is_final m ≡ true → m.code ≡ 95 → ⊥
final-ends m f e = go (m.code) e f
  where
    go : (c : ℕ) → c ≡ 95 → (((eqb (c / 32) 2) || ((eqb (c / 32) 4) || (eqb (c / 32) 5))) && (not (eqb c 67) && (not (eqb c 95) && not (eqb c 136)))) ≡ true → ⊥
    go c e f =
        let at : (((eqb (95 / 32) 2) || ((eqb (95 / 32) 4) || (eqb (95 / 32) 5))) && (not (eqb 95 67) && (not (eqb 95 95) && not (eqb 95 136)))) ≡ true =
        subst (λ (c : ℕ). (((eqb (c / 32) 2) || ((eqb (c / 32) 4) || (eqb (c / 32) 5))) && (not (eqb c 67) && (not (eqb c 95) && not (eqb c 136)))) ≡ true) e f in
        false≢true at

if-last : (b : Bool) → if_final b ≡ Last → b ≡ true
if-last true e = refl
if-last false e = absurd cc

last-final : (u : UploadValue) (m : Content) → answer_to u m ≡ Last → is_final m ≡ true
last-final u m e = one (not (answers_piece (next_num u) m)) (is_last u) e
  where
    three : (b : Bool) → (cond b Next (if_final (is_final m && not (eqb (class_of m) 2)))) ≡ Last → is_final m ≡ true
    three true f = absurd cc
    three false f = (and_parts (is_final m) _ (if-last _ f)).0

    two : (b : Bool) → (cond b (if_final (is_final m)) (cond (eqb m.code 95) Next (if_final (is_final m && not (eqb (class_of m) 2))))) ≡ Last → is_final m ≡ true
    two true f = if-last (is_final m) f
    two false f = three (eqb m.code 95) f

    one : (a b : Bool) → (cond a Wrong (cond b (if_final (is_final m)) (cond (eqb m.code 95) Next (if_final (is_final m && not (eqb (class_of m) 2)))))) ≡ Last → is_final m ≡ true
    one true b f = absurd cc
    one false b f = two b f

-- the options may be passed over
passed : (b : Bool) (x : Option Response) (w : Response) → cond b x None ≡ Some w → x ≡ Some w
passed true x w e = e
passed false x w e = absurd (none-some w e)

-- what ends it tells the response, and nothing comes after it
ends-it : (m : Content) (ms : List Content) (later : Option Response) (w : Response) → whole_by Last m ms later ≡ Some w → (w.code ≡ m.code) × (ms ≡ [])
ends-it m [] later w g = (ap (λ (v : Response). v.code) (sym (some-is (response_of m) w g)), refl)
ends-it m (n ∷ ms) later w g = absurd (none-some w g)

as-many : (h : List Written) (k : ℕ) (q : CoapRequest) (p : Point) (js : List ℕ) (ms : List Content) → AreHeardFor h k q p js ms → ms ≡ [] → js ≡ []
as-many h k q p [] ms a e = refl
as-many h k q p (j ∷ js) [] a e = absurd a
as-many h k q p (j ∷ js) (m ∷ ms) a e = absurd cc

pub last-reply : (h : List Written) (k : ℕ) (q : CoapRequest) (u : UploadValue) (js : List ℕ) (ms : List Content) (w : Response)
    → AreHeardFor h k q (Given u) js ms → whole_given u ms ≡ Some w → IsLastReply h k q js w
last-reply h k q u [] [] w a e = absurd (none-some w e)
last-reply h k q u [] (m ∷ ms) w a e = absurd a
last-reply h k q u (j ∷ js) [] w a e = absurd a
last-reply h k q u (j ∷ js) (m ∷ ms) w a e =
    by (answer_to u m) refl (last-reply h j q (next_of u m) js ms w a.1) (passed (is_forwardable m.options) _ w e)
  where
    after : k ≤ j
    after = let first = a.0.sent_for.after in let later = a.0.response.after in omega (arith, first, later)

    by : (x : Answered) → answer_to u m ≡ x → (whole_given (next_of u m) ms ≡ Some w → IsLastReply h j q js w)
        → whole_by x m ms (whole_given (next_of u m) ms) ≡ Some w → IsLastReply h k q (j ∷ js) w
    by Next f more g =
        let it = more g in
        let low = it.not_before in
        record {
          since = it.since;
          not_before = omega (arith, after, low);
          block = it.block;
          earlier = j ∷ it.earlier;
          number = it.number;
          are = ap (λ (ns : List ℕ). j ∷ ns) it.are;
          message = it.message;
          heard = it.heard;
          is = it.is;
          ends = it.ends;
        }
    by Last f more g = record {
      since = k;
      not_before = omega arith;
      block = _;
      earlier = [];
      number = j;
      are = ap (λ (ns : List ℕ). j ∷ ns) (as-many h j q (Given (next_of u m)) js ms a.1 (ends-it m ms (whole_given (next_of u m) ms) w g).1);
      message = m;
      heard = a.0;
      is = (ends-it m ms (whole_given (next_of u m) ms) w g).0;
      ends = final-ends m (last-final u m f);
    }
    by Wrong f more g = absurd (none-some w g)
