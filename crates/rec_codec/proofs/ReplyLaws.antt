-- Reasons and replies: what is taken is spelled so, and what is spelled so is taken.
use Rattle.std.proofs.Common.{◌≡◌, ℕ, ◌^◌, ◌<◌, Bool, true, false, cond, ltb, eqb, ◌⊎◌, List, [], ◌++◌, Some, None, refl, sym, ap, subst, ◌∙◌, arith, inl, inr}
use Rattle.std.proofs.lemmas.Bool.{eqb-true, ltb-true, lt-ltb}
use Rattle.byteorder.specs.Endian.{big_bytes}
use Rattle.obj_model.specs.States.{IsReply}
use Rattle.obj_model.specs.declared.reply.Why.{Why}
use Rattle.obj_model.specs.declared.reply.Why.TheVariants.{Exists, NoEnt, NoData, Canceled, Range, Overflow, TooBig}
use Rattle.obj_model.specs.declared.reply.Reply.{Reply}
use Rattle.obj_model.specs.declared.reply.Reply.TheVariants.{Done, Refused}
use Rattle.rec_codec.specs.Spelling.{why, reply, IsFitWhy, IsFitReply}
use Rattle.rec_codec.specs.Reading.{◌>>=◌, then_at, behind_at, if_at, as_at, number_at, plain_why, why_behind, why_at, refused_at, reply_behind, reply_at}
use Rattle.rec_codec.proofs.Readers.{some_bind, some_is, Took, IsReader, then_reads, behind_reads, if_reads, as_reads, also_reads}
use Rattle.rec_codec.proofs.BlockLaws.{byte_reads, u64_reads}

-- which branch was taken
pub chosen : {A : Type 0} (b : Bool) (x y z : A) → cond b x y ≡ z → ((b ≡ true) × (x ≡ z)) ⊎ ((b ≡ false) × (y ≡ z))
chosen true x y z e = inl (refl, e)
chosen false x y z e = inr (refl, e)

pub no_value : {A : Type 0} (x : A) → None ≡ Some x → ⊥
no_value x e = absurd cc

-- ---- the reason of a refusal

abbrev tag_of : Why → ℕ
tag_of Exists = 1
tag_of NoEnt = 2
tag_of NoData = 3
tag_of Canceled = 4
tag_of Range = 5
tag_of Overflow = 6
tag_of (TooBig limit asked) = 7

abbrev limits : Why → ℕ × ℕ
limits Exists = (0, 0)
limits NoEnt = (0, 0)
limits NoData = (0, 0)
limits Canceled = (0, 0)
limits Range = (0, 0)
limits Overflow = (0, 0)
limits (TooBig limit asked) = (limit, asked)

abbrev fields : Why → List ℕ
fields Exists = []
fields NoEnt = []
fields NoData = []
fields Canceled = []
fields Range = []
fields Overflow = []
fields (TooBig limit asked) = big_bytes 8 limit ++ big_bytes 8 asked

tag_small : (w : Why) → tag_of w < 256 ^ 1
tag_small Exists = omega arith
tag_small NoEnt = omega arith
tag_small NoData = omega arith
tag_small Canceled = omega arith
tag_small Range = omega arith
tag_small Overflow = omega arith
tag_small (TooBig limit asked) = omega arith

limits_back : (w : Why) → (tag_of w ≡ 7) × IsFitWhy w → (((limits w).0 < 256 ^ 8) × ((limits w).1 < 256 ^ 8)) × (TooBig (limits w).0 (limits w).1 ≡ w)
limits_back Exists h = absurd (omega (arith, h.0))
limits_back NoEnt h = absurd (omega (arith, h.0))
limits_back NoData h = absurd (omega (arith, h.0))
limits_back Canceled h = absurd (omega (arith, h.0))
limits_back Range h = absurd (omega (arith, h.0))
limits_back Overflow h = absurd (omega (arith, h.0))
limits_back (TooBig limit asked) h = (h.1, refl)

limit_fields : (w : Why) → (tag_of w ≡ 7) × IsFitWhy w → big_bytes 8 (limits w).0 ++ big_bytes 8 (limits w).1 ≡ fields w
limit_fields Exists h = absurd (omega (arith, h.0))
limit_fields NoEnt h = absurd (omega (arith, h.0))
limit_fields NoData h = absurd (omega (arith, h.0))
limit_fields Canceled h = absurd (omega (arith, h.0))
limit_fields Range h = absurd (omega (arith, h.0))
limit_fields Overflow h = absurd (omega (arith, h.0))
limit_fields (TooBig limit asked) h = refl

limit_reads : IsReader (as_at (then_at (number_at 8) (λ _. number_at 8)) (λ n. TooBig n.0 n.1)) (λ w. big_bytes 8 (limits w).0 ++ big_bytes 8 (limits w).1) (λ w. (tag_of w ≡ 7) × IsFitWhy w)
limit_reads = as_reads (then_at (number_at 8) (λ _. number_at 8)) (λ n. TooBig n.0 n.1) limits (λ n. big_bytes 8 n.0 ++ big_bytes 8 n.1) (λ n. (n.0 < 256 ^ 8) × (n.1 < 256 ^ 8)) (λ w. (tag_of w ≡ 7) × IsFitWhy w)
    (then_reads (number_at 8) (λ _. number_at 8) (big_bytes 8) (big_bytes 8) (λ x. x < 256 ^ 8) (λ _ x. x < 256 ^ 8) u64_reads (λ _ _. u64_reads))
    (λ n h. ((refl, h), refl)) limits_back

abbrev IsPlain : ℕ → Why → Type 0
IsPlain tag w = (tag_of w ≡ tag) × (fields w ≡ []) × IsFitWhy w

plain_is : (tag : ℕ) (w : Why) → plain_why tag ≡ Some w → IsPlain tag w
unfolding plain_why
plain_is tag w e = elim (chosen (eqb tag 1) (Some Exists) _ (Some w) e) [
  | inl h ↦ subst (IsPlain tag) (some_is Exists w h.1) (sym (eqb-true _ _ h.0), refl, tt)
  | inr h1 ↦ elim (chosen (eqb tag 2) (Some NoEnt) _ (Some w) h1.1) [
    | inl h ↦ subst (IsPlain tag) (some_is NoEnt w h.1) (sym (eqb-true _ _ h.0), refl, tt)
    | inr h2 ↦ elim (chosen (eqb tag 3) (Some NoData) _ (Some w) h2.1) [
      | inl h ↦ subst (IsPlain tag) (some_is NoData w h.1) (sym (eqb-true _ _ h.0), refl, tt)
      | inr h3 ↦ elim (chosen (eqb tag 4) (Some Canceled) _ (Some w) h3.1) [
        | inl h ↦ subst (IsPlain tag) (some_is Canceled w h.1) (sym (eqb-true _ _ h.0), refl, tt)
        | inr h4 ↦ elim (chosen (eqb tag 5) (Some Range) _ (Some w) h4.1) [
          | inl h ↦ subst (IsPlain tag) (some_is Range w h.1) (sym (eqb-true _ _ h.0), refl, tt)
          | inr h5 ↦ elim (chosen (eqb tag 6) (Some Overflow) None (Some w) h5.1) [
            | inl h ↦ subst (IsPlain tag) (some_is Overflow w h.1) (sym (eqb-true _ _ h.0), refl, tt)
            | inr h6 ↦ absurd (no_value w h6.1)
          ]
        ]
      ]
    ]
  ]
]

why_again : (w : Why) (rest : List ℕ) → IsFitWhy w → why_behind (tag_of w) (fields w ++ rest) ≡ Some (w, rest)
unfolding plain_why
why_again Exists rest h = refl
why_again NoEnt rest h = refl
why_again NoData rest h = refl
why_again Canceled rest h = refl
why_again Range rest h = refl
why_again Overflow rest h = refl
why_again (TooBig limit asked) rest h = limit_reads.again (TooBig limit asked) rest (refl, h)

why_behind_reads : (tag : ℕ) → IsReader (why_behind tag) fields (λ w. (tag_of w ≡ tag) × IsFitWhy w)
why_behind_reads tag = record {
  takes = λ bytes x rest fits e.
      elim (chosen (eqb tag 7) (as_at (then_at (number_at 8) (λ _. number_at 8)) (λ n. TooBig n.0 n.1) bytes) (plain_why tag >>= (λ w. Some (w, bytes))) (Some (x, rest)) e) [
        | inl h ↦
            let t = limit_reads.takes bytes x rest fits h.1 in
            record { parts = t.parts ∙ ap (λ (l : List ℕ). l ++ rest) (limit_fields x t.lawful); rest_fits = t.rest_fits; lawful = (t.lawful.0 ∙ sym (eqb-true _ _ h.0), t.lawful.1) }
        | inr h ↦
            let a = some_bind (plain_why tag) (λ w. Some (w, bytes)) (x, rest) h.1 in
            let p = plain_is tag a.0 a.1 in
            subst (λ (y : Why × List ℕ). Took fields (λ w. (tag_of w ≡ tag) × IsFitWhy w) bytes y.0 y.1) (some_is (a.0, bytes) (x, rest) a.2)
            (record { parts = ap (λ (l : List ℕ). l ++ bytes) (sym p.1); rest_fits = fits; lawful = (p.0, p.2) })
      ];
  again = λ x rest lawful. subst (λ (t : ℕ). why_behind t (fields x ++ rest) ≡ Some (x, rest)) lawful.0 (why_again x rest lawful.1);
}

why_spelled : (w : Why) → big_bytes 1 (tag_of w) ++ fields w ≡ why w
why_spelled Exists = refl
why_spelled NoEnt = refl
why_spelled NoData = refl
why_spelled Canceled = refl
why_spelled Range = refl
why_spelled Overflow = refl
why_spelled (TooBig limit asked) = refl

pub why_reads : IsReader why_at why IsFitWhy
unfolding why_at
why_reads = also_reads (behind_at (number_at 1) why_behind) (λ w. big_bytes 1 (tag_of w) ++ fields w) why IsFitWhy IsFitWhy
    (behind_reads (number_at 1) why_behind tag_of (big_bytes 1) fields (λ n. n < 256 ^ 1) IsFitWhy byte_reads (λ w _. tag_small w) (λ tag _. why_behind_reads tag))
    why_spelled (λ w h. h) (λ w h. h)

-- ---- replies

-- a reply within its limits
abbrev pub IsSoundReply : Reply → Type 0
IsSoundReply r = IsReply r × IsFitReply r

abbrev reply_tag : Reply → ℕ
reply_tag (Done ver) = 1
reply_tag (Refused at w ver) = 2

abbrev version_of : Reply → ℕ
version_of (Done ver) = ver
version_of (Refused at w ver) = ver

abbrev refusal_of : Reply → ℕ × (Why × ℕ)
refusal_of (Done ver) = (0, (Exists, 0))
refusal_of (Refused at w ver) = (at, (w, ver))

abbrev reply_fields : Reply → List ℕ
reply_fields (Done ver) = big_bytes 8 ver
reply_fields (Refused at w ver) = big_bytes 1 at ++ (why w ++ big_bytes 8 ver)

abbrev refusal : ℕ × (Why × ℕ) → List ℕ
refusal r = big_bytes 1 r.0 ++ (why r.1.0 ++ big_bytes 8 r.1.1)

abbrev IsRefusal : ℕ × (Why × ℕ) → Type 0
IsRefusal r = ((r.0 < 256 ^ 1) × (ltb r.0 16 ≡ true)) × (IsFitWhy r.1.0 × (r.1.1 < 256 ^ 8))

done_back : (r : Reply) → (reply_tag r ≡ 1) × IsSoundReply r → (version_of r < 256 ^ 8) × (Done (version_of r) ≡ r)
done_back (Done ver) h = (h.1.1, refl)
done_back (Refused at w ver) h = absurd (omega (arith, h.0))

refused_back : (r : Reply) → (reply_tag r ≡ 2) × IsSoundReply r → IsRefusal (refusal_of r) × (Refused (refusal_of r).0 (refusal_of r).1.0 (refusal_of r).1.1 ≡ r)
refused_back (Done ver) h = absurd (omega (arith, h.0))
refused_back (Refused at w ver) h = (((omega (arith, h.1.0), lt-ltb _ _ h.1.0), h.1.1), refl)

done_fields : (r : Reply) → (reply_tag r ≡ 1) × IsSoundReply r → big_bytes 8 (version_of r) ≡ reply_fields r
done_fields (Done ver) h = refl
done_fields (Refused at w ver) h = absurd (omega (arith, h.0))

refused_fields : (r : Reply) → (reply_tag r ≡ 2) × IsSoundReply r → refusal (refusal_of r) ≡ reply_fields r
refused_fields (Done ver) h = absurd (omega (arith, h.0))
refused_fields (Refused at w ver) h = refl

as_done : IsReader (as_at (number_at 8) Done) (λ r. big_bytes 8 (version_of r)) (λ r. (reply_tag r ≡ 1) × IsSoundReply r)
as_done = as_reads (number_at 8) Done version_of (big_bytes 8) (λ x. x < 256 ^ 8) (λ r. (reply_tag r ≡ 1) × IsSoundReply r) u64_reads (λ n h. ((refl, (tt, h)), refl)) done_back

done_reads : IsReader (as_at (number_at 8) Done) reply_fields (λ r. (reply_tag r ≡ 1) × IsSoundReply r)
done_reads = record {
  takes = λ bytes x rest fits e. let t = as_done.takes bytes x rest fits e in record { parts = t.parts ∙ ap (λ (l : List ℕ). l ++ rest) (done_fields x t.lawful); rest_fits = t.rest_fits; lawful = t.lawful };
  again = λ x rest lawful. ap (λ (l : List ℕ). as_at (number_at 8) Done (l ++ rest)) (sym (done_fields x lawful)) ∙ as_done.again x rest lawful;
}

as_refused : IsReader refused_at (λ r. refusal (refusal_of r)) (λ r. (reply_tag r ≡ 2) × IsSoundReply r)
as_refused = as_reads (then_at (if_at (number_at 1) (λ at. ltb at 16)) (λ _. then_at why_at (λ _. number_at 8))) (λ r. Refused r.0 r.1.0 r.1.1) refusal_of refusal IsRefusal (λ r. (reply_tag r ≡ 2) × IsSoundReply r)
    (then_reads (if_at (number_at 1) (λ at. ltb at 16)) (λ _. then_at why_at (λ _. number_at 8)) (big_bytes 1) (λ p. why p.0 ++ big_bytes 8 p.1) (λ at. (at < 256 ^ 1) × (ltb at 16 ≡ true)) (λ _ p. IsFitWhy p.0 × (p.1 < 256 ^ 8))
    (if_reads (number_at 1) (λ at. ltb at 16) (big_bytes 1) (λ at. at < 256 ^ 1) byte_reads)
    (λ _ _. then_reads why_at (λ _. number_at 8) why (big_bytes 8) IsFitWhy (λ _ x. x < 256 ^ 8) why_reads (λ _ _. u64_reads)))
    (λ r h. ((refl, (ltb-true _ _ h.0.1, h.1)), refl)) refused_back

refused_reads : IsReader refused_at reply_fields (λ r. (reply_tag r ≡ 2) × IsSoundReply r)
refused_reads = record {
  takes = λ bytes x rest fits e. let t = as_refused.takes bytes x rest fits e in record { parts = t.parts ∙ ap (λ (l : List ℕ). l ++ rest) (refused_fields x t.lawful); rest_fits = t.rest_fits; lawful = t.lawful };
  again = λ x rest lawful. ap (λ (l : List ℕ). refused_at (l ++ rest)) (sym (refused_fields x lawful)) ∙ as_refused.again x rest lawful;
}

reply_again : (r : Reply) (rest : List ℕ) → IsSoundReply r → reply_behind (reply_tag r) (reply_fields r ++ rest) ≡ Some (r, rest)
reply_again (Done ver) rest h = done_reads.again (Done ver) rest (refl, h)
reply_again (Refused at w ver) rest h = refused_reads.again (Refused at w ver) rest (refl, h)

reply_behind_reads : (tag : ℕ) → IsReader (reply_behind tag) reply_fields (λ r. (reply_tag r ≡ tag) × IsSoundReply r)
reply_behind_reads tag = record {
  takes = λ bytes x rest fits e.
      elim (chosen (eqb tag 1) (as_at (number_at 8) Done bytes) (cond (eqb tag 2) (refused_at bytes) None) (Some (x, rest)) e) [
        | inl h ↦ let t = done_reads.takes bytes x rest fits h.1 in record { parts = t.parts; rest_fits = t.rest_fits; lawful = (t.lawful.0 ∙ sym (eqb-true _ _ h.0), t.lawful.1) }
        | inr h ↦
            elim (chosen (eqb tag 2) (refused_at bytes) None (Some (x, rest)) h.1) [
              | inl k ↦ let t = refused_reads.takes bytes x rest fits k.1 in record { parts = t.parts; rest_fits = t.rest_fits; lawful = (t.lawful.0 ∙ sym (eqb-true _ _ k.0), t.lawful.1) }
              | inr k ↦ absurd (no_value (x, rest) k.1)
            ]
      ];
  again = λ x rest lawful. subst (λ (t : ℕ). reply_behind t (reply_fields x ++ rest) ≡ Some (x, rest)) lawful.0 (reply_again x rest lawful.1);
}

reply_spelled : (r : Reply) → big_bytes 1 (reply_tag r) ++ reply_fields r ≡ reply r
reply_spelled (Done ver) = refl
reply_spelled (Refused at w ver) = refl

reply_tag_small : (r : Reply) → reply_tag r < 256 ^ 1
reply_tag_small (Done ver) = omega arith
reply_tag_small (Refused at w ver) = omega arith

pub reply_reads : IsReader reply_at reply IsSoundReply
unfolding reply_at
reply_reads = also_reads (behind_at (number_at 1) reply_behind) (λ r. big_bytes 1 (reply_tag r) ++ reply_fields r) reply IsSoundReply IsSoundReply
    (behind_reads (number_at 1) reply_behind reply_tag (big_bytes 1) reply_fields (λ n. n < 256 ^ 1) IsSoundReply byte_reads (λ r _. reply_tag_small r) (λ tag _. reply_behind_reads tag))
    reply_spelled (λ r h. h) (λ r h. h)
