mod Numerals
mod Arguments
mod Devices
mod Laws
