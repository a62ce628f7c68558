mod Badnesses
mod Decimals
mod Divisions
mod Products
mod Readings
mod Roundings
mod Texts
