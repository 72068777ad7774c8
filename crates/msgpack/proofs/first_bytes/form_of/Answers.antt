use native.Mathlib.Omega.{arith}
use Prim.Native.Nat.{◌<◌, ◌≤◌}
use Prim.Native.Nat.{◌≤◌}
use borrow.Author.Tests.{lt-ltb, le-ltb}
use Rattle.msgpack.specs.Form.{form_of}
use Rattle.msgpack.proofs.first_bytes.form_of.Goals as goal

pub returns-in-192 : goal.returns-in-192
unfolding form_of
returns-in-192 c = rw c.in-192.is

pub returns-in-193 : goal.returns-in-193
unfolding form_of
returns-in-193 c = rw c.in-193.is

pub returns-in-194 : goal.returns-in-194
unfolding form_of
returns-in-194 c = rw c.in-194.is

pub returns-in-195 : goal.returns-in-195
unfolding form_of
returns-in-195 c = rw c.in-195.is

pub returns-in-196 : goal.returns-in-196
unfolding form_of
returns-in-196 c = rw c.in-196.is

pub returns-in-197 : goal.returns-in-197
unfolding form_of
returns-in-197 c = rw c.in-197.is

pub returns-in-198 : goal.returns-in-198
unfolding form_of
returns-in-198 c = rw c.in-198.is

pub returns-in-199 : goal.returns-in-199
unfolding form_of
returns-in-199 c = rw c.in-199.is

pub returns-in-200 : goal.returns-in-200
unfolding form_of
returns-in-200 c = rw c.in-200.is

pub returns-in-201 : goal.returns-in-201
unfolding form_of
returns-in-201 c = rw c.in-201.is

pub returns-in-202 : goal.returns-in-202
unfolding form_of
returns-in-202 c = rw c.in-202.is

pub returns-in-203 : goal.returns-in-203
unfolding form_of
returns-in-203 c = rw c.in-203.is

pub returns-in-204 : goal.returns-in-204
unfolding form_of
returns-in-204 c = rw c.in-204.is

pub returns-in-205 : goal.returns-in-205
unfolding form_of
returns-in-205 c = rw c.in-205.is

pub returns-in-206 : goal.returns-in-206
unfolding form_of
returns-in-206 c = rw c.in-206.is

pub returns-in-207 : goal.returns-in-207
unfolding form_of
returns-in-207 c = rw c.in-207.is

pub returns-in-208 : goal.returns-in-208
unfolding form_of
returns-in-208 c = rw c.in-208.is

pub returns-in-209 : goal.returns-in-209
unfolding form_of
returns-in-209 c = rw c.in-209.is

pub returns-in-210 : goal.returns-in-210
unfolding form_of
returns-in-210 c = rw c.in-210.is

pub returns-in-211 : goal.returns-in-211
unfolding form_of
returns-in-211 c = rw c.in-211.is

pub returns-in-212 : goal.returns-in-212
unfolding form_of
returns-in-212 c = rw c.in-212.is

pub returns-in-213 : goal.returns-in-213
unfolding form_of
returns-in-213 c = rw c.in-213.is

pub returns-in-214 : goal.returns-in-214
unfolding form_of
returns-in-214 c = rw c.in-214.is

pub returns-in-215 : goal.returns-in-215
unfolding form_of
returns-in-215 c = rw c.in-215.is

pub returns-in-216 : goal.returns-in-216
unfolding form_of
returns-in-216 c = rw c.in-216.is

pub returns-in-217 : goal.returns-in-217
unfolding form_of
returns-in-217 c = rw c.in-217.is

pub returns-in-218 : goal.returns-in-218
unfolding form_of
returns-in-218 c = rw c.in-218.is

pub returns-in-219 : goal.returns-in-219
unfolding form_of
returns-in-219 c = rw c.in-219.is

pub returns-in-220 : goal.returns-in-220
unfolding form_of
returns-in-220 c = rw c.in-220.is

pub returns-in-221 : goal.returns-in-221
unfolding form_of
returns-in-221 c = rw c.in-221.is

pub returns-in-222 : goal.returns-in-222
unfolding form_of
returns-in-222 c = rw c.in-222.is

pub returns-in-223 : goal.returns-in-223
unfolding form_of
returns-in-223 c = rw c.in-223.is

pub returns-in-0-to-127 : goal.returns-in-0-to-127
unfolding form_of
returns-in-0-to-127 c = let high : c.args.b < 128 = omega arith in simp (lt-ltb _ _ high)

pub returns-in-128-to-143 : goal.returns-in-128-to-143
unfolding form_of
returns-in-128-to-143 c =
    let low128 : 128 ≤ c.args.b = omega arith in
    let high : c.args.b < 144 = omega arith in
    simp (le-ltb _ _ low128, lt-ltb _ _ high)

pub returns-in-144-to-159 : goal.returns-in-144-to-159
unfolding form_of
returns-in-144-to-159 c =
    let low128 : 128 ≤ c.args.b = omega arith in
    let low144 : 144 ≤ c.args.b = omega arith in
    let high : c.args.b < 160 = omega arith in
    simp (le-ltb _ _ low128, le-ltb _ _ low144, lt-ltb _ _ high)

pub returns-in-160-to-191 : goal.returns-in-160-to-191
unfolding form_of
returns-in-160-to-191 c =
    let low128 : 128 ≤ c.args.b = omega arith in
    let low144 : 144 ≤ c.args.b = omega arith in
    let low160 : 160 ≤ c.args.b = omega arith in
    let high : c.args.b < 192 = omega arith in
    simp (le-ltb _ _ low128, le-ltb _ _ low144, le-ltb _ _ low160, lt-ltb _ _ high)

pub returns-in-224-to-255 : goal.returns-in-224-to-255
unfolding form_of
returns-in-224-to-255 c =
    let low128 : 128 ≤ c.args.b = omega arith in
    let low144 : 144 ≤ c.args.b = omega arith in
    let low160 : 160 ≤ c.args.b = omega arith in
    let low192 : 192 ≤ c.args.b = omega arith in
    let low224 : 224 ≤ c.args.b = omega arith in
    simp (le-ltb _ _ low128, le-ltb _ _ low144, le-ltb _ _ low160, le-ltb _ _ low192, le-ltb _ _ low224)
